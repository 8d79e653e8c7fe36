-- Loops that register the exporter's own counters.
use Rattle.std.proofs.Common.{◌≡◌, ◌⊎◌, ℕ, ◌+◌, ◌<◌, List, [], ◌∷◌, ◌++◌, length, take, drop, get_or, refl, sym, ap, ◌∙◌, inl, inr}
use Rattle.std.specs.List.{FoldsTo}
use Rattle.std.proofs.lemmas.Fn.{FoldsTo-push}
use Rattle.std.proofs.lemmas.List.{take_more, drop_more, take-append-drop, map_push}
use Rattle.metrics_core.specs.declared.kinds.MetricKind.TheVariants as kinds
use Rattle.legal_history.specs.declared.history.View.{View}
use Rattle.dsd_exporter.specs.Exporter.{Exporter}
use Rattle.shared_flushes.specs.declared.entries.StateEntry.{StateEntry}
use Rattle.dsd_forwarder.specs.declared.own_counters.OwnCounter.{OwnCounter}
use Rattle.dsd_forwarder.specs.declared.telemetry.OwnCount.{OwnCount}
use Rattle.dsd_forwarder.specs.OwnCounters.{own_key, own_counters}
use Rattle.dsd_forwarder.specs.Registering.{MayRegister, RegistersCounter}
use Rattle.dsd_forwarder.specs.Telemetry.{Registers, RegistersFirst, RegistersNext, RegistersNextSeen, RegistersSeen, RegistersSome, RegistersSomeSeen, counters_of}

module _ {S : Type 0} (RegistersOne : S → OwnCount → S → Type 0) where
  -- so many of them were registered
  pub record Registered (i : ℕ) (old : S) (counts : List OwnCount) (new : S) : Type 0 where
    pub firsts : counters_of counts ≡ take i own_counters
    pub registered : FoldsTo RegistersOne old counts new

  pub one_more : (i : ℕ) (old between new : S) (counts : List OwnCount) (x : OwnCount) (d : OwnCounter)
      → i < length own_counters → Registered i old counts between → x.counter ≡ get_or own_counters i d → RegistersOne between x new
      → Registered (i + 1) old (counts ++ x ∷ []) new
  one_more i old between new counts x d within so_far is registers = record {
    firsts = map_push (λ c. c.counter) counts x ∙ (ap (λ l. l ++ x.counter ∷ []) so_far.firsts ∙ (ap (λ c. take i own_counters ++ c ∷ []) is ∙ sym (take_more own_counters i d within)));
    registered = FoldsTo-push RegistersOne old counts between x new so_far.registered registers;
  }

  pub first_of : (Next : List OwnCounter → S → S → Type 0) (i : ℕ) (old between new : S) (counts : List OwnCount)
      → Registered i old counts between → Next (drop i own_counters) between new → RegistersFirst RegistersOne Next old own_counters new
  first_of Next i old between new counts so_far next = record {
    counted = counts;
    rest = drop i own_counters;
    in_order = ap (λ l. l ++ drop i own_counters) so_far.firsts ∙ take-append-drop i own_counters;
    between = between;
    registered = so_far.registered;
    next = next;
  }

module _ (transport : List ℕ) where
  pub some : (i : ℕ) (old new : Exporter) (counts : List OwnCount) → Registered (Registers transport) i old counts new → RegistersSome transport old own_counters new
  some i old new counts so_far = first_of (Registers transport) (RegistersNext transport) i old new new counts so_far (inl refl)

  pub some_next : (i : ℕ) (old between new : Exporter) (counts : List OwnCount) (d : OwnCounter)
      → i < length own_counters → Registered (Registers transport) i old counts between
      → (new ≡ between) ⊎ RegistersCounter (own_key transport (get_or own_counters i d)) between new → RegistersSome transport old own_counters new
  some_next i old between new counts d within so_far (inl same) = first_of (Registers transport) (RegistersNext transport) i old between new counts so_far (inl same)
  some_next i old between new counts d within so_far (inr registers) =
      first_of (Registers transport) (RegistersNext transport) i old between new counts so_far (inr (get_or own_counters i d, drop (i + 1) own_counters, drop_more own_counters i d within, registers))

  pub some_seen : (i : ℕ) (v w : View StateEntry) (counts : List OwnCount) → Registered (RegistersSeen transport) i v counts w → RegistersSomeSeen transport v own_counters w
  some_seen i v w counts so_far = first_of (RegistersSeen transport) (RegistersNextSeen transport) i v w w counts so_far (inl refl)

  pub some_next_seen : (i : ℕ) (v u w : View StateEntry) (counts : List OwnCount) (d : OwnCounter)
      → i < length own_counters → Registered (RegistersSeen transport) i v counts u
      → (w ≡ u) ⊎ MayRegister kinds.Counter (own_key transport (get_or own_counters i d)) u w → RegistersSomeSeen transport v own_counters w
  some_next_seen i v u w counts d within so_far (inl same) = first_of (RegistersSeen transport) (RegistersNextSeen transport) i v u w counts so_far (inl same)
  some_next_seen i v u w counts d within so_far (inr registers) =
      first_of (RegistersSeen transport) (RegistersNextSeen transport) i v u w counts so_far (inr (get_or own_counters i d, drop (i + 1) own_counters, drop_more own_counters i d within, registers))
