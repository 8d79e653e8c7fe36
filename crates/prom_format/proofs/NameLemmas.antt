-- How a walk over the characters of a text makes a name.
use Rattle.std.proofs.Common.{true, ◌≡◌, ℕ, List, [], ◌∷◌, ◌++◌, map, refl, sym, ap, ◌∙◌, subst, chars}
use Rattle.std.specs.Prelude.{Option, Some, None, unwrap_or}
use Rattle.std.specs.Char.{encode_utf8}
use Rattle.std.specs.Str.{IsUtf8}
use Rattle.std.specs.Str.Iter.{chars_rest, chars_steps}
use Rattle.std.specs.declared.str.Chars.{Chars}
use Rattle.std.proofs.lemmas.List.{nil_from_length}
use Rattle.std.proofs.lemmas.Str.{chars-nil, chars_past_char, IsUtf8-past_char, IsUtf8-nil}
use Rattle.prom_format.specs.declared.names.NameKind.{NameKind}
use Rattle.prom_format.specs.declared.names.NameKind.TheVariants.{Metric, Label}
use Rattle.prom_format.specs.Names.{is_name, sanitized_characters, kept_or_underscore}
use Rattle.prom_format.specs.NameKinds.{begins, continues}
use Rattle.prom_format.proofs.NameLaws.{sanitized_metric_name-of_name, sanitized_label_name-of_name}

-- an empty text makes `_`
empty_name : (kind : NameKind) (text : List ℕ) → text ≡ [] → kept_or_underscore (begins kind) 95 ∷ map (kept_or_underscore (continues kind)) (chars text) ≡ sanitized_characters (begins kind) (chars text)
empty_name kind text empty =
    let P : List ℕ → Type 0 = λ t. kept_or_underscore (begins kind) 95 ∷ map (kept_or_underscore (continues kind)) t ≡ sanitized_characters (begins kind) t in
    subst P (sym (ap chars empty ∙ chars-nil)) (by kind)
  where
    by : (k : NameKind) → kept_or_underscore (begins k) 95 ∷ [] ≡ 95 ∷ []
    by Metric = refl
    by Label = refl

-- the first character of a name, and its later ones
pub first_made : (kind : NameKind) (s t : Chars) (o : Option ℕ) → IsUtf8 (chars_rest s) → chars_steps s o t →
    IsUtf8 (chars_rest t)
    × (kept_or_underscore (begins kind) (unwrap_or o 95) ∷ map (kept_or_underscore (continues kind)) (chars (chars_rest t)) ≡ sanitized_characters (begins kind) (chars (chars_rest s)))
first_made kind s t None text ((empty, same), _, _) =
    let none : chars_rest t ≡ [] = ap chars_rest same ∙ nil_from_length (chars_rest s) empty in (
      subst IsUtf8 (sym none) IsUtf8-nil,
      empty_name kind (chars_rest t) none ∙ ap (λ s. sanitized_characters (begins kind) (chars (chars_rest s))) same,
    )
first_made kind s t (Some c) text (split, _, _) = (
  IsUtf8-past_char (chars_rest s) (chars_rest t) c text split,
  ap (sanitized_characters (begins kind)) (sym (chars_past_char (chars_rest s) (chars_rest t) c text split)),
)

-- one later character
pub later_made : (kind : NameKind) (text rest : List ℕ) (c : ℕ) → IsUtf8 text → text ≡ encode_utf8 c ++ rest →
    map (kept_or_underscore (continues kind)) (chars text) ≡ kept_or_underscore (continues kind) c ∷ map (kept_or_underscore (continues kind)) (chars rest)
later_made kind text rest c whole split = ap (map (kept_or_underscore (continues kind))) (chars_past_char text rest c whole split)

-- a name of a kind stays as it is
pub name_kept : (kind : NameKind) (text : List ℕ) → is_name (begins kind) text ≡ true → sanitized_characters (begins kind) (chars text) ≡ text
name_kept Metric text named = sanitized_metric_name-of_name text named
name_kept Label text named = sanitized_label_name-of_name text named
