-- What lanes that run side by side do to several shared things.
use Rattle.std.specs.Prelude.{◌≡◌, ℕ, zero, suc, ◌+◌, ◌-◌, ◌<◌, ◌==◌, ◌⊎◌, Bool, false, List, [], ◌∷◌, ◌++◌, Option, Some, None, IfSome, take, length, slice_index}
use mathlib.Core.Option.{some}
use mathlib.Core.List.{IsPrefix}
use lib.ListN.{get_elem?}
use Rattle.legal_history.specs.declared.history.Held.{Held}
use Rattle.legal_history.specs.declared.history.View.{View}
use Rattle.legal_history.specs.History.{Distinct, calls, held, keep, Settled}
use Rattle.legal_history.specs.Order.{times, taken, IsOrder, GrewInOrder}
use Rattle.legal_history.specs.Places.{Ascend}
use Rattle.legal_history.specs.News.{helds, calls_if}
use Rattle.cell_lanes.specs.declared.lane.Line.{Line}
use Rattle.cell_lanes.specs.Lines.{LaneText, AreDone}
use Rattle.cell_lanes.specs.declared.lane.Slot.{Slot}
use Rattle.cell_lanes.specs.declared.lane.Job.{Job}
use Rattle.cell_lanes.specs.Calls.{StandAs}

-- a line goes through slot s; a line on no thing goes through none
abbrev pub is_through : ℕ → Option ℕ → Bool
is_through s None = false
is_through s (Some slot) = slot == s

-- a line is on cell j, where the slots stand for the cells cs; a line on no thing is on none
abbrev pub is_on : ℕ → List ℕ → Option ℕ → Bool
is_on j cs None = false
is_on j cs (Some slot) = slice_index cs slot == j

module _ {K : Type 0} where
  -- what these lines ask for through slot s
  abbrev pub slot_calls : ℕ → List (Line K) → List K
  slot_calls s [] = []
  slot_calls s (x ∷ xs) = keep (is_through s x.slot) x.call (slot_calls s xs)

  -- what they ask for on cell j
  abbrev pub cell_calls : ℕ → List ℕ → List (Line K) → List K
  cell_calls j cs [] = []
  cell_calls j cs (x ∷ xs) = keep (is_on j cs x.slot) x.call (cell_calls j cs xs)

  -- what lane l asks for on cell j with its first `done l` lines
  abbrev pub calls_on : ℕ → List (LaneText K) → (ℕ → ℕ) → ℕ → List K
  calls_on j [] done l = []
  calls_on j (x ∷ xs) done zero = cell_calls j x.cells (take (done 0) x.lines)
  calls_on j (x ∷ xs) done (suc l) = calls_on j xs (λ k. done (suc k)) l

  -- what lane l asks for on cell j with all its lines
  abbrev pub all_calls_on : ℕ → List (LaneText K) → ℕ → List K
  all_calls_on j [] l = []
  all_calls_on j (x ∷ xs) zero = cell_calls j x.cells x.lines
  all_calls_on j (x ∷ xs) (suc l) = all_calls_on j xs l

  -- each lane has made all its calls
  abbrev pub AllDone : List (LaneText K) → (ℕ → ℕ) → Type 0
  AllDone lanes done = (l : ℕ) (x : LaneText K) → get_elem? lanes l ≡ some x → done l ≡ length x.lines

  -- a lane has calls left that it has not made
  abbrev pub SomeLeft : List (LaneText K) → (ℕ → ℕ) → Type 0
  SomeLeft lanes done = (l : ℕ) × (x : LaneText K) × (get_elem? lanes l ≡ some x) × (done l < length x.lines)

  -- a lane has calls left, or none has made any
  abbrev pub Unfinished : List (LaneText K) → (ℕ → ℕ) → Type 0
  Unfinished lanes done = SomeLeft lanes done ⊎ ((l : ℕ) → done l ≡ 0)

  -- a line's slot, if it is on a thing, is one of these
  abbrev pub HasSlot : ℕ → Line K → Type 0
  HasSlot slots line = IfSome line.slot (λ slot. slot < slots)

  abbrev pub LineFit : ℕ → List (Line K) → Type 0
  LineFit slots lines = (k : ℕ) (x : Line K) → get_elem? lines k ≡ some x → HasSlot slots x

  -- each cell that a lane names is there, and is named once; each line has a slot, or is on no thing
  pub record Fit (count : ℕ) (lane : LaneText K) : Type 0 where
    pub cells : (s j : ℕ) → get_elem? lane.cells s ≡ some j → j < count
    pub once : Distinct lane.cells
    pub lines : LineFit (length lane.cells) lane.lines

  abbrev pub AllFit : ℕ → List (LaneText K) → Type 0
  AllFit count lanes = (l : ℕ) (x : LaneText K) → get_elem? lanes l ≡ some x → Fit count x

  -- the cells that a lane names ascend and are there; each line has a slot, or is on no thing
  pub record InOrder (count : ℕ) (lane : LaneText K) : Type 0 where
    pub cells : Ascend 0 count lane.cells
    pub lines : LineFit (length lane.cells) lane.lines

  abbrev pub AllInOrder : ℕ → List (LaneText K) → Type 0
  AllInOrder count lanes = (l : ℕ) (x : LaneText K) → get_elem? lanes l ≡ some x → InOrder count x

  -- a lane names cell j
  abbrev pub Named : ℕ → List (LaneText K) → Type 0
  Named j lanes = (l : ℕ) × (x : LaneText K) × (get_elem? lanes l ≡ some x) × ((s : ℕ) × (get_elem? x.cells s ≡ some j))

-- a relation of each one before and after
abbrev pub Each : {S : Type 0} → (ℕ → S → S → Type 0) → List S → List S → Type 0
Each {S} R cs ds = (j : ℕ) (c d : S) → get_elem? cs j ≡ some c → get_elem? ds j ≡ some d → R j c d

-- the history grew by what the lanes asked for on cell j, in one order in which each lane's calls stand as it made them
abbrev pub Grew : {S K M : Type 0} → (S → View M) → (K → List M → Type 0) → List (LaneText K) → (ℕ → ℕ) → ℕ → S → S → Type 0
Grew {M = M} root stands lanes done j c d = (lists : ℕ → List M) × ((l : ℕ) → StandAs stands (calls_on j lanes done l) (lists l)) × GrewInOrder lists (root c).seen (root d).seen

-- the same where all lanes made all their calls, and calls that were made after the round stand behind them
abbrev pub GrewWhole : {S K M : Type 0} → (S → View M) → (K → List M → Type 0) → List (LaneText K) → (ℕ → List M) → ℕ → S → S → Type 0
GrewWhole {M = M} root stands lanes later j c d =
    (lists : ℕ → List M) × ((l : ℕ) → StandAs stands (all_calls_on j lanes l) (lists l)) × (order : List ℕ) × IsOrder order lists
    × (calls (root d).seen ≡ (calls (root c).seen ++ taken order lists) ++ later j)

-- no call was made after the round; or these were, on the cell with this index
abbrev pub none_later : {M : Type 0} → ℕ → List M
none_later j = []

abbrev pub later_on : {M : Type 0} → ℕ → List M → ℕ → List M
later_on index made j = calls_if (j == index) made []

-- a round that finished, and calls after it: there are as many things as before, and each history grew so
pub record Finished {S K M : Type 0} (root : S → View M) (stands : K → List M → Type 0) (lanes : List (LaneText K)) (later : ℕ → List M) (cs ds : List S) : Type 0 where
  pub many : length ds ≡ length cs
  pub grew : Each (GrewWhole root stands lanes later) cs ds

-- the reading is one of a root with no pass out, whose history has grown by all that the lanes asked for, in one order of lanes
pub record ReadAfter {K M R : Type 0} (reads : View M → R → View M → Type 0) (stands : K → List M → Type 0) (asked : ℕ → List K) (before : View M) (reading : R) : Type 0 where
  pub found : View M
  pub left : View M
  pub reads_it : reads found reading left
  pub root : found.number ≡ 0
  pub home : found.out ≡ 0
  pub lists : ℕ → List M
  pub stand : (l : ℕ) → StandAs stands (asked l) (lists l)
  pub order : List ℕ
  pub is_order : IsOrder order lists
  pub grew : calls found.seen ≡ calls before.seen ++ taken order lists

-- lanes that stopped: each history grew by the first calls of each lane; a lane has calls left, or none has made any
abbrev pub Stopped : {S K M : Type 0} → (S → View M) → (K → List M → Type 0) → List (LaneText K) → List S → List S → Type 0
Stopped root stands lanes cs ds = (done : ℕ → ℕ) × Unfinished lanes done × Each (Grew root stands lanes done) cs ds

module _ {S M : Type 0} (root : S → View M) where
  -- each root is the root
  abbrev pub Roots : List S → Type 0
  Roots cs = (j : ℕ) (c : S) → get_elem? cs j ≡ some c → (root c).number ≡ 0

  -- no pass is out
  abbrev pub Home : List S → Type 0
  Home cs = (j : ℕ) (c : S) → get_elem? cs j ≡ some c → (root c).out ≡ 0

  -- the root at this index knows whose each call is
  abbrev pub SettledAt : List S → ℕ → Type 0
  SettledAt cs j = (c : S) → get_elem? cs j ≡ some c → Settled (root c)

  -- no pass is out, and each root knows whose each call is
  abbrev pub AtRest : List S → Type 0
  AtRest cs = (j : ℕ) (c : S) → get_elem? cs j ≡ some c → ((root c).out ≡ 0) × Settled (root c)

-- what is fixed lasts on
abbrev pub Stays : {S F : Type 0} → (F → F → Type 0) → (S → F) → S → S → Type 0
Stays lasts fixed c d = lasts (fixed c) (fixed d)

-- the pass was lent by this one
abbrev pub Owns : {S F L : Type 0} → (S → F) → (F → L → Type 0) → S → L → Type 0
Owns fixed owns c x = owns (fixed c) x

module _ {S M : Type 0} (root : S → View M) (stays : S → S → Type 0) where
  -- n more passes are out
  pub record Lends (n : ℕ) (c d : S) : Type 0 where
    pub kept : stays c d
    pub number : (root d).number ≡ (root c).number
    pub mine : (root d).mine ≡ (root c).mine
    pub joined : (root d).joined ≡ (root c).joined
    pub seen : (root d).seen ≡ (root c).seen
    pub out : (root d).out ≡ (root c).out + n

  -- these passes were given back; where there are none, the root is as it was
  pub record Takes (news : List (ℕ × Held M)) (c d : S) : Type 0 where
    pub kept : stays c d
    pub number : (root d).number ≡ (root c).number
    pub mine : (root d).mine ≡ (root c).mine
    pub joined : (root d).joined ≡ (root c).joined ++ helds news
    pub seen : IsPrefix (root c).seen (root d).seen
    pub out : (root d).out ≡ (root c).out - length news
    pub still : news ≡ [] → root d ≡ root c

  -- nothing was lent or given back
  pub record Same (c d : S) : Type 0 where
    pub kept : stays c d
    pub view : root d ≡ root c

abbrev pub cells_of : {L : Type 0} → List (Slot L) → List ℕ
cells_of [] = []
cells_of (x ∷ xs) = x.cell ∷ cells_of xs

-- each slot has a pass of its cell
abbrev pub SlotsFit : {S L : Type 0} → (S → L → Type 0) → List S → List (Slot L) → Type 0
SlotsFit {S} {L} owns cs slots = (s : ℕ) (x : Slot L) → get_elem? slots s ≡ some x → (x.cell < length cs) × ((c : S) → get_elem? cs x.cell ≡ some c → owns c x.lent)

abbrev pub JobsFit : {S L : Type 0} → (S → L → Type 0) → List S → List (Job L) → Type 0
JobsFit {L = L} owns cs jobs = (l : ℕ) (x : Job L) → get_elem? jobs l ≡ some x → SlotsFit owns cs x.slots.items

-- what the slots hold is of the same cells, and each lent pass is of what lent it
abbrev pub SlotsKept : {S L : Type 0} → (S → L → Type 0) → List (Slot L) → List (Slot L) → Type 0
SlotsKept {S} {L} owns xs ys = (length ys ≡ length xs) × ((s : ℕ) (x y : Slot L) → get_elem? xs s ≡ some x → get_elem? ys s ≡ some y → (y.cell ≡ x.cell) × ((c : S) → owns c x.lent → owns c y.lent))

-- what a line has a pass of, if it is on a thing, takes its call
abbrev pub LineTaken : {F L K : Type 0} → (F → L → Type 0) → (F → K → Type 0) → List (Slot L) → Line K → Type 0
LineTaken {F} {L} owns takes slots line =
    IfSome line.slot (λ slot. (y : Slot L) → get_elem? slots slot ≡ some y → (f : F) × owns f y.lent × takes f line.call)

abbrev pub LinesTaken : {F L K : Type 0} → (F → L → Type 0) → (F → K → Type 0) → List (Slot L) → List (Line K) → Type 0
LinesTaken {K = K} owns takes slots lines = (k : ℕ) (x : Line K) → get_elem? lines k ≡ some x → LineTaken owns takes slots x

-- each lane's calls are on things that take them, or on none
abbrev pub AllTaken : {S F K : Type 0} → (S → F) → (F → K → Type 0) → List S → List (LaneText K) → Type 0
AllTaken {S} {F} {K} fixed takes cs lanes = (l : ℕ) (a : LaneText K) (k : ℕ) (x : Line K)
    → get_elem? lanes l ≡ some a → get_elem? a.lines k ≡ some x
    → IfSome x.slot (λ slot. (j : ℕ) (c : S) → get_elem? a.cells slot ≡ some j → get_elem? cs j ≡ some c → takes (fixed c) x.call)

-- how many passes of cell j are out with these jobs
abbrev pub lent_on : {L : Type 0} → ℕ → List (Job L) → ℕ
lent_on j [] = 0
lent_on j (x ∷ xs) = times j (cells_of x.slots.items) + lent_on j xs

-- how many calls lane l has made
abbrev pub done_of : {L : Type 0} → List (Job L) → ℕ → ℕ
done_of [] l = 0
done_of (x ∷ xs) zero = x.done
done_of (x ∷ xs) (suc l) = done_of xs l

module _ {L M : Type 0} (knows : L → View M) where
  -- the passes have made no call
  abbrev pub Fresh : List (Slot L) → Type 0
  Fresh slots = (s : ℕ) (x : Slot L) → get_elem? slots s ≡ some x → (knows x.lent).mine ≡ []

  -- each lane has fresh passes, of the first cells that it names, and has made no call
  abbrev pub JobsFresh : {K : Type 0} → List (LaneText K) → List (Job L) → Type 0
  JobsFresh {K} lanes jobs = (l : ℕ) (a : LaneText K) (x : Job L) → get_elem? lanes l ≡ some a → get_elem? jobs l ≡ some x → (cells_of x.slots.items ≡ take (length x.slots.items) a.cells) × Fresh x.slots.items × (x.done ≡ 0)

  abbrev pub slot_news : ℕ → ℕ → Slot L → List (ℕ × Held M)
  slot_news j l x = keep (x.cell == j) (l, held (knows x.lent).number (knows x.lent).mine (knows x.lent).seen) []

  -- what lane l gives back to cell j, the last slot first
  abbrev pub given : ℕ → ℕ → List (Slot L) → List (ℕ × Held M)
  given j l [] = []
  given j l (x ∷ xs) = given j l xs ++ slot_news j l x

  -- what the jobs from lane k on give back to cell j, the last one first
  abbrev pub all_given : ℕ → ℕ → List (Job L) → List (ℕ × Held M)
  all_given j k [] = []
  all_given j k (x ∷ xs) = all_given j (k + 1) xs ++ given j k x.slots.items

  module _ {K : Type 0} (stands : K → List M → Type 0) where
    -- each pass has made what these lines ask for through its slot
    abbrev pub SlotsMade : List (Line K) → List (Slot L) → Type 0
    SlotsMade lines slots = (s : ℕ) (x : Slot L) → get_elem? slots s ≡ some x → StandAs stands (slot_calls s lines) (knows x.lent).mine

    -- the passes made what this line asks for, behind whatever lines they had made; or nothing
    abbrev pub LineMade : Line K → List (Slot L) → List (Slot L) → Type 0
    LineMade line slots slots' = (lines : List (Line K)) → SlotsMade lines slots → SlotsMade (lines ++ line ∷ []) slots'

    abbrev pub NoneMade : List (Slot L) → List (Slot L) → Type 0
    NoneMade slots slots' = (lines : List (Line K)) → SlotsMade lines slots → SlotsMade lines slots'

    -- a lane has one pass for each cell that it names, and its passes have made its first lines; or it has some of them, and has made none
    pub record JobRan (lane : LaneText K) (job : Job L) : Type 0 where
      pub some_cells : cells_of job.slots.items ≡ take (length job.slots.items) lane.cells
      pub whole : (job.done ≡ 0) ⊎ (cells_of job.slots.items ≡ lane.cells)
      pub made : SlotsMade (take job.done lane.lines) job.slots.items

    abbrev pub JobsRan : List (LaneText K) → List (Job L) → Type 0
    JobsRan lanes jobs = (l : ℕ) (a : LaneText K) (x : Job L) → get_elem? lanes l ≡ some a → get_elem? jobs l ≡ some x → JobRan a x

    -- what a lane has while it ran: the passes of the same cells, which have made its first lines
    abbrev pub LaneRan : {S : Type 0} → (S → L → Type 0) → LaneText K → Job L → Job L → Type 0
    LaneRan owns lane before after = SlotsKept owns before.slots.items after.slots.items × SlotsMade (take after.done lane.lines) after.slots.items × AreDone lane.lines after.done after.is_done

  -- a lane has fresh passes, one for each of its lines, of things that take the calls
  abbrev pub LaneReady : {F K : Type 0} → (F → L → Type 0) → (F → K → Type 0) → LaneText K → Job L → Type 0
  LaneReady owns takes lane job = Fresh job.slots.items × LineFit (length job.slots.items) lane.lines × LinesTaken owns takes job.slots.items lane.lines
