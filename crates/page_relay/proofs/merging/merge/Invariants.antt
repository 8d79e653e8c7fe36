use Rattle.std.proofs.Common.{◌≡◌, ◌+◌, ◌++◌, map, take}
use Rattle.page_relay.specs.Gathering.{FamiliesStand}
use Rattle.page_relay.specs.Merge.{numbered, on_page}
use Rattle.page_relay.specs.Values.{families_of, family_of}
use Rattle.page_relay.proofs.merging.merge.Given as goal

abbrev pub invariant-loop-page : goal.invariant-loop-page
invariant-loop-page l = (l.number ≡ l.page-index) × FamiliesStand l.merging (numbered (map families_of (take l.page-index l.pages)))

abbrev pub invariant-loop-family : goal.invariant-loop-family
invariant-loop-family l =
    (l.number ≡ l.page-index + 1)
    × FamiliesStand l.merging (numbered (map families_of (take l.page-index l.pages)) ++ on_page l.number (map family_of (take l.family-index l.family-items)))
