-- Worked rows of the definitions.
use Rattle.std.specs.Prelude.{◌≡◌, ℕ, List, ◌++◌, codes, true, false, refl}
use Rattle.std.specs.Fmt.{digits}
use Rattle.page_answers.specs.Paths.{path_of}
use Rattle.page_answers.specs.Answers.{line_end, refusal_text, answer_text}

abbrev pub shows : List ℕ → List ℕ → Type 0
shows target path = path_of target ≡ path

pub origin : shows (codes "/health?full=1") (codes "/health")
origin = refl

pub absolute : shows (codes "http://a:9000/health?x") (codes "/health")
absolute = refl

pub absolute_without_slash : shows (codes "http://a") (codes "/")
absolute_without_slash = refl

pub slash_in_the_query : shows (codes "http://a?/health") (codes "/")
slash_in_the_query = refl

pub second_mark : shows (codes "a://b://c/health") (codes "//c/health")
second_mark = refl

pub without_slash : shows (codes "health?x") (codes "health?x")
without_slash = refl

pub bad : refusal_text 400 ≡ codes "HTTP/1.1 400 Bad Request" ++ line_end ++ codes "content-length: 0" ++ line_end ++ codes "connection: close" ++ line_end ++ line_end
unfolding digits
bad = refl

pub forbidden : answer_text false (codes "GET") (codes "/health") (codes "page") ≡ codes "HTTP/1.1 403 Forbidden" ++ line_end ++ codes "content-length: 0" ++ line_end ++ codes "connection: close" ++ line_end ++ line_end
unfolding digits
forbidden = refl

pub healthy : answer_text true (codes "GET") (codes "/health") (codes "page") ≡ codes "HTTP/1.1 200 OK" ++ line_end ++ codes "content-type: text/plain" ++ line_end ++ codes "content-length: 2" ++ line_end ++ codes "connection: close" ++ line_end ++ line_end ++ codes "OK"
unfolding digits
healthy = refl

pub only_the_head : answer_text true (codes "HEAD") (codes "/") (codes "page") ≡ codes "HTTP/1.1 200 OK" ++ line_end ++ codes "content-type: text/plain" ++ line_end ++ codes "content-length: 4" ++ line_end ++ codes "connection: close" ++ line_end ++ line_end
unfolding digits
only_the_head = refl
