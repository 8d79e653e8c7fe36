use Rattle.std.proofs.Common.{rules, ◌≡◌, ◌≤◌, [], ◌∷◌, ◌++◌, map, None, refl, ap, subst, ◌∙◌, arith}
use Rattle.std.specs.Prelude.{unwrap_or, vec_len, vec_capacity}
use Rattle.std.specs.String.{string_eq}
use Rattle.std.specs.Map.{lookup}
use Rattle.std.specs.declared.vec.Vec.{Vec}
use Rattle.std.specs.declared.alloc.Global.{Global}
use Rattle.std.proofs.Common.{ℕ}
use Rattle.std.proofs.lemmas.Result.{err_from_is_err_and}
use Rattle.indexmap.specs.Entry.{map_with_value}
use Rattle.prom_exporter.specs.Rows.{family_kept}
use Rattle.prom_exporter.proofs.Groups.{entries-insert_entry, entries-refused, shown_entries}
use Rattle.prom_exporter.proofs.rows.add_family.Goals as goal

-- an error comes where the family was there already, since a new one has room
pub returns-in_err-push-clause-refused : goal.returns-in_err-push-clause-refused
returns-in_err-push-clause-refused c =
    let refusal = err_from_is_err_and c.from_residual-in_err-push.result c.from_residual-in_err-push.ensures.1 in
    let room = c.in_ok-room.room in
    let name = c.args.name in
    let group = c.push.new.self in
    let entries = c.args.families.now.entries in
    let found = lookup (string_eq name) entries in
    let places = c.or_insert-places.ensures.value ∙ ap (λ f. unwrap_or f room) c.in_ok-families.ensures.value in
    let new : found ≡ None → ⊥ = λ none.
    (let is = places ∙ ap (λ f. unwrap_or f room) none in
    let full : vec_capacity room ≤ vec_len room = subst (λ (v : Vec ℕ Global). vec_capacity v ≤ vec_len v) is c.in_err-push.ensures.full in
    absurd (omega (arith, full, c.in_ok-room.ensures.capacity, c.in_ok-room.ensures.len))) in
    rw refusal.1 (shown_entries family_kept _ (map_with_value c.in_ok-families.field-0 group).entries _ (search rules)
    (ap (map family_kept) (c.in_ok-families.ensures.update.1 group)
    ∙ entries-refused (λ (v : Vec ℕ Global). v.items) name group room c.args.place c.in_ok-room.ensures.items entries found refl (c.in_err-push.ensures.items ∙ ap (λ (v : Vec ℕ Global). v.items) places) new))

pub returns-clause-added : goal.returns-clause-added
returns-clause-added c =
    let room = c.in_ok-room.room in
    let name = c.args.name in
    let group = c.push.new.self in
    let entries = c.args.families.now.entries in
    let places = c.or_insert-places.ensures.value ∙ ap (λ f. unwrap_or f room) c.in_ok-families.ensures.value in
    let more : group.items ≡ (unwrap_or (lookup (string_eq name) entries) room).items ++ c.args.place ∷ [] =
    c.in_ok-push.ensures.items ∙ ap (λ (v : Vec ℕ Global). v.items ++ c.args.place ∷ []) places in
    shown_entries family_kept _ (map_with_value c.in_ok-families.field-0 group).entries _ (search rules)
    (ap (map family_kept) (c.in_ok-families.ensures.update.1 group)
    ∙ entries-insert_entry (λ (v : Vec ℕ Global). v.items) name group room c.args.place c.in_ok-room.ensures.items entries more)
