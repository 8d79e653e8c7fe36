-- Labels in braces are written one after another: the first behind a brace, and each other one behind a comma.
use Rattle.std.proofs.Common.{◌≡◌, ℕ, Bool, true, false, List, [], ◌∷◌, ◌++◌, map, refl, sym, ap, ◌∙◌, append_assoc}
use Rattle.std.specs.Prelude.{codes, if◌then◌else◌}
use Rattle.std.proofs.lemmas.List.{append-nil, map-append}
use Rattle.metrics_core.specs.Keys.{LabelText}
use Rattle.prom_format.specs.Lines.{any_behind, behind_commas, braced, closing, label_texts, separated, shown_label}
use Rattle.prom_format.specs.Pages.{label_text, label_set_text}
use Rattle.prom_format.proofs.PageText.{label_set_braced}

behind_separated : (texts : List (List ℕ)) → behind_commas texts ≡ separated true texts
behind_separated [] = refl
behind_separated (text ∷ texts) = ap (λ others. codes "," ++ text ++ others) (behind_separated texts)

pub braced_separated : (texts : List (List ℕ)) → braced texts ≡ separated false texts ++ closing (any_behind false texts)
braced_separated [] = refl
braced_separated (first ∷ others) = ap (λ behind. codes "{" ++ first ++ behind ++ codes "}") (behind_separated others)

pub separated-append : (any : Bool) (texts others : List (List ℕ)) → separated any (texts ++ others) ≡ separated any texts ++ separated (any_behind any texts) others
separated-append any [] others = refl
separated-append any (text ∷ texts) others =
    ap (λ behind. (if any then codes "," else codes "{") ++ text ++ behind) (separated-append true texts others ∙ ap (λ b. separated true texts ++ separated b others) (any_true texts))
    ∙ sym (append_assoc ((if any then codes "," else codes "{") ++ text) (separated true texts) (separated true others))
  where
    any_true : (texts : List (List ℕ)) → any_behind true texts ≡ true
    any_true [] = refl
    any_true (text ∷ texts) = refl

pub any_behind-append : (any : Bool) (texts others : List (List ℕ)) → any_behind any (texts ++ others) ≡ any_behind (any_behind any texts) others
any_behind-append any [] others = refl
any_behind-append any (text ∷ texts) [] = refl
any_behind-append any (text ∷ texts) (other ∷ others) = refl

-- texts behind texts
pub texts_joined : (old now new : List ℕ) (any any_then : Bool) (texts others : List (List ℕ)) →
    now ≡ old ++ separated false texts → any ≡ any_behind false texts → new ≡ now ++ separated any others → any_then ≡ any_behind any others →
    (new ≡ old ++ separated false (texts ++ others)) × (any_then ≡ any_behind false (texts ++ others))
texts_joined old now new any any_then texts others first first_any second second_any = (
  second
      ∙ (λ i. first i ++ separated (first_any i) others)
      ∙ append_assoc old (separated false texts) (separated (any_behind false texts) others)
      ∙ ap (λ t. old ++ t) (sym (separated-append false texts others)),
  second_any ∙ ap (λ b. any_behind b others) first_any ∙ sym (any_behind-append false texts others),
)

-- texts with the brace behind them
pub texts_closed : (old now new : List ℕ) (any : Bool) (texts : List (List ℕ)) →
    now ≡ old ++ separated false texts → any ≡ any_behind false texts → new ≡ now ++ closing any → new ≡ old ++ braced texts
texts_closed old now new any texts written is_any closed =
    closed
    ∙ (λ i. written i ++ closing (is_any i))
    ∙ append_assoc old (separated false texts) (closing (any_behind false texts))
    ∙ ap (λ t. old ++ t) (sym (braced_separated texts))

-- labels behind labels
pub labels_joined : (old now new : List ℕ) (any any_then : Bool) (labels others : List LabelText) →
    now ≡ old ++ separated false (label_texts labels) → any ≡ any_behind false (label_texts labels) →
    new ≡ now ++ separated any (label_texts others) → any_then ≡ any_behind any (label_texts others) →
    (new ≡ old ++ separated false (label_texts (labels ++ others))) × (any_then ≡ any_behind false (label_texts (labels ++ others)))
labels_joined old now new any any_then labels others first first_any second second_any =
    let joined = texts_joined old now new any any_then (label_texts labels) (label_texts others) first first_any second second_any in
    let split = sym (map-append (λ l. label_text (shown_label l)) labels others) in
    (joined.0 ∙ ap (λ texts. old ++ separated false texts) split, joined.1 ∙ ap (any_behind false) split)

-- a label set with the brace behind it
pub labels_closed : (old now new : List ℕ) (any : Bool) (labels : List LabelText) →
    now ≡ old ++ separated false (label_texts labels) → any ≡ any_behind false (label_texts labels) → new ≡ now ++ closing any →
    new ≡ old ++ label_set_text (map shown_label labels)
labels_closed old now new any labels written is_any closed =
    texts_closed old now new any (label_texts labels) written is_any closed
    ∙ ap (λ t. old ++ t) (sym (label_set_braced labels ∙ ap braced (append-nil (label_texts labels))))
