-- What a pass that was told of a history knows of what it had seen itself.
use Rattle.std.proofs.Common.{◌≡◌, List, [], ◌++◌, refl, sym}
use Rattle.std.proofs.lemmas.List.{append-nil}
use Rattle.legal_history.specs.declared.history.Entry.{Entry}
use Rattle.legal_history.specs.declared.history.View.{View}
use Rattle.legal_history.specs.History.{after, Sees}
use Rattle.legal_history.proofs.Prefixes.{prefix_self}
use Rattle.legal_history.proofs.Lists.{between}

module _ {C : Type 0} where
  -- it sees what it had seen
  pub sees_its_own : (v : View C) (log : List (Entry C)) → Sees v log → Sees v v.seen
  sees_its_own v log sees = record {
    begins = prefix_self v.seen;
    own = sees.own_seen;
    own_seen = sees.own_seen;
    back = λ h given.
        (let returned = sees.returned h given in
        between h.by h.seen v.seen log h.calls returned.begins sees.begins returned.told (sees.back h given));
    returned = sees.returned;
    whole = λ root home. (refl, (sees.whole root home).1);
  }

  -- a pass that made no call behind what it had seen is as it was
  pub after_none : (v : View C) → v ≡ after v v.seen []
  after_none v = λ i. record v { seen = sym (append-nil v.seen) i; mine = sym (append-nil v.mine) i }
