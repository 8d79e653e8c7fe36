-- The bytes of an answer (RFC 9112, sections 2 and 4; the fields are this project's rule).
use Rattle.std.specs.Prelude.{◌≡◌, ℕ, ◌⊎◌, Bool, List, [], ◌∷◌, ◌++◌, length, codes, decimal, bytes_eq, unwrap_or, if◌then◌else◌}
use Rattle.http.specs.StatusCode.{reason_phrase}
use Rattle.httparse.specs.Grammar.{RequestHead}
use Rattle.page_answers.specs.Heads.{BeginsWith, HasNoHead}
use Rattle.page_answers.specs.Paths.{path_of}

abbrev pub line_end : List ℕ
line_end = 13 ∷ 10 ∷ []

abbrev pub line : List ℕ → List ℕ
line text = text ++ line_end

-- the reason phrase of a status
abbrev pub phrase : ℕ → List ℕ
phrase status = unwrap_or (reason_phrase status) []

-- an answer begins with its status, and goes on with what stands behind that
abbrev pub with_status : ℕ → List ℕ → List ℕ
with_status status behind = codes "HTTP/1.1 " ++ (decimal status ++ (codes " " ++ (phrase status ++ behind)))

-- the end of the head
abbrev pub head_end : List ℕ
head_end = line_end ++ line (codes "connection: close") ++ line_end

-- a refused request: no body
abbrev pub refusal_text : ℕ → List ℕ
refusal_text status = with_status status (line_end ++ codes "content-length: 0" ++ head_end)

-- the body, unless only the head was asked for
abbrev pub shown_body : Bool → List ℕ → List ℕ
shown_body only_head body = if only_head then [] else body

-- a granted request: the head with the length of the body, and the body where it is shown
abbrev pub granted_text : Bool → List ℕ → List ℕ
granted_text only_head body =
    with_status 200 ((line_end ++ line (codes "content-type: text/plain") ++ codes "content-length: ")
    ++ (decimal (length body) ++ (head_end ++ shown_body only_head body)))

-- what a path shows: `OK` at `/health`, and the page anywhere else
abbrev pub body_at : List ℕ → List ℕ → List ℕ
body_at path page = if bytes_eq path (codes "/health") then codes "OK" else page

-- the answer to a request with this method and this target, of a peer that is allowed or not
abbrev pub answer_text : Bool → List ℕ → List ℕ → List ℕ → List ℕ
answer_text allowed method target page =
    if allowed then granted_text (bytes_eq method (codes "HEAD")) (body_at (path_of target) page) else refusal_text 403

-- the answer to bytes: 400 where they begin with no head, and otherwise the answer to the head
abbrev pub IsAnswer : Bool → List ℕ → List ℕ → List ℕ → Type 0
IsAnswer allowed bytes page answer =
    (HasNoHead bytes × (answer ≡ refusal_text 400))
    ⊎ ((head : RequestHead) × BeginsWith bytes head × (answer ≡ answer_text allowed head.method head.target page))

-- the answer is determined
abbrev pub AnswersAreDetermined : Type 0
AnswersAreDetermined = (allowed : Bool) (bytes page one other : List ℕ) → IsAnswer allowed bytes page one → IsAnswer allowed bytes page other → one ≡ other
