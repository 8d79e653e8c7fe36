use Rattle.std.proofs.Common.{◌<◌, length, sym, subst, arith}
use Rattle.std.proofs.lemmas.List.{length-map}
use Rattle.atomic_table.proofs.Lists.{at_index}
use Rattle.cell_lanes.specs.Calls.{StandAs}
use Rattle.cell_lanes.specs.Things.{root_of, fixed_of}
use Rattle.cell_lanes.specs.Lanes.{AllFit, AtRest, Roots}
use Rattle.cell_lanes.proofs.Jobs.{all_calls}
use Rattle.cell_lanes.proofs.Lists.{of_some}
use Rattle.cell_lanes.proofs.Played.{found_calls, found_rests, finished_made}
use Rattle.cell_lanes.proofs.Resting.{rest_with}
use Rattle.cell_lanes.proofs.Rows.{thing, roots_in, rests_in, roots_out, rests_out, grew_out, same_length}
use Rattle.cell_lanes.proofs.reading.run_and_read.Goals as goal

pub run_lanes-requires-clause-roots : goal.run_lanes-requires-clause-roots
run_lanes-requires-clause-roots g c κs within =
    let items = c.args.cells.now.items in
    (roots_in root_of fixed_of items c.requires.roots.0, rests_in root_of fixed_of items c.requires.roots.1)

pub run_lanes-requires-clause-fit : goal.run_lanes-requires-clause-fit
run_lanes-requires-clause-fit g c κs within = subst (λ n. AllFit n c.args.lanes.now) (sym (length-map c.args.cells.now.items (thing root_of fixed_of))) c.requires.fit

pub run_lanes-requires-clause-taken : goal.run_lanes-requires-clause-taken
run_lanes-requires-clause-taken g c κs within = λ l a k x e f. of_some x.slot _ (λ slot j s h i. tt)

pub returns-in-Ok-clause-roots : goal.returns-in-Ok-clause-roots
returns-in-Ok-clause-roots g c =
    let t = c.in-Ok.ensures in
    let now = c.run_lanes.new.shared.items in
    let rest : Roots root_of now × AtRest root_of now = (roots_out root_of fixed_of now t.roots.0, rests_out root_of fixed_of now t.roots.1) in
    let below : c.args.index < length now = omega (arith, c.requires.index, same_length root_of fixed_of c.args.cells.now.items now t.many) in
    let d = c.index_mut.result.now in
    let at = at_index now c.args.index d below c.index_mut.ensures.value in
    let found = c.read.ensures.stands in
    let home = rest.1 c.args.index d at in
    rest_with root_of now c.args.index c.read.new.self (found_rests (g.C.SharedCell.read_as c.read.result) d.root c.read.new.self.root found (rest.0 c.args.index d at) home.0 home.1) rest

pub returns-in-Ok-clause-finished : goal.returns-in-Ok-clause-finished
returns-in-Ok-clause-finished g c =
    let t = c.in-Ok.ensures in
    let items = c.args.cells.now.items in
    let now = c.run_lanes.new.shared.items in
    let rest : Roots root_of now × AtRest root_of now = (roots_out root_of fixed_of now t.roots.0, rests_out root_of fixed_of now t.roots.1) in
    let many = same_length root_of fixed_of items now t.many in
    let below : c.args.index < length now = omega (arith, c.requires.index, many) in
    let d = c.index_mut.result.now in
    let at = at_index now c.args.index d below c.index_mut.ensures.value in
    let found = c.read.ensures.stands in
    let made = g.C.SharedCell.read_as c.read.result in
    finished_made root_of g.C.SharedCell.stands_as c.args.lanes.now t.grew.0 t.grew.1 items now c.args.index d c.read.new.self made at
    (found_calls made d.root c.read.new.self.root found (rest.0 c.args.index d at) (rest.1 c.args.index d at).0) many
    (grew_out root_of fixed_of g.C.SharedCell.stands_as c.args.lanes.now t.grew.0 items now t.grew.2)

pub returns-in-Ok-clause-read : goal.returns-in-Ok-clause-read
returns-in-Ok-clause-read g c = λ s e.
    let t = c.in-Ok.ensures in
    let items = c.args.cells.now.items in
    let now = c.run_lanes.new.shared.items in
    let rest : Roots root_of now × AtRest root_of now = (roots_out root_of fixed_of now t.roots.0, rests_out root_of fixed_of now t.roots.1) in
    let below : c.args.index < length now = omega (arith, c.requires.index, same_length root_of fixed_of items now t.many) in
    let d = c.index_mut.result.now in
    let at = at_index now c.args.index d below c.index_mut.ensures.value in
    let grew = grew_out root_of fixed_of g.C.SharedCell.stands_as c.args.lanes.now t.grew.0 items now t.grew.2 c.args.index s d e at in
    record {
      found = d.root;
      left = c.read.new.self.root;
      reads_it = c.read.ensures.read;
      root = rest.0 c.args.index d at;
      home = (rest.1 c.args.index d at).0;
      lists = grew.0;
      stand = λ l. subst (λ asked. StandAs g.C.SharedCell.stands_as asked (grew.0 l)) (all_calls c.args.index c.args.lanes.now t.grew.0 l t.grew.1) (grew.1 l);
      order = grew.2.0;
      is_order = grew.2.1;
      grew = grew.2.2;
    }

pub returns-in-Err-clause-roots : goal.returns-in-Err-clause-roots
returns-in-Err-clause-roots g c =
    let t = c.in-Err.ensures in
    let now = c.run_lanes.new.shared.items in
    (roots_out root_of fixed_of now t.roots.0, rests_out root_of fixed_of now t.roots.1)

pub returns-in-Err-clause-stopped : goal.returns-in-Err-clause-stopped
returns-in-Err-clause-stopped g c =
    let t = c.in-Err.ensures in
    (t.grew.0, t.grew.3, grew_out root_of fixed_of g.C.SharedCell.stands_as c.args.lanes.now t.grew.0 c.args.cells.now.items c.run_lanes.new.shared.items t.grew.2)
