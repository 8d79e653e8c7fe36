use Rattle.std.proofs.Common.{inl, inr}
use Rattle.metrics_core.proofs.Grown.{grew_prefix-longer, grew_prefix-append, grew_prefix-whole, grew-append}
use Rattle.script_player.proofs.RestingSteps.{render_rests, rest_home}
use Rattle.script_player.proofs.Rendered.{grew_page, grew_page_prefix}
use Rattle.script_player.proofs.page.write_page.Goals as goal

pub returns-in-Err-WriteFault-clause-rests : goal.returns-in-Err-WriteFault-clause-rests
returns-in-Err-WriteFault-clause-rests g c = render_rests _ _ _ c.in-Err-WriteFault.ensures.steps c.requires.can.rest

pub returns-in-Err-WriteFault-clause-prefix : goal.returns-in-Err-WriteFault-clause-prefix
returns-in-Err-WriteFault-clause-prefix g c =
    grew_prefix-longer _ _ _ _ (grew_page_prefix c.args.moment c.args.pages.now _ _ c.requires.can.timely (c.in-Err-WriteFault.ensures.page_prefix (rest_home _ c.requires.can.rest)))

pub returns-in-Err-clause-rests : goal.returns-in-Err-clause-rests
returns-in-Err-clause-rests g c = render_rests _ _ _ c.in-Err.ensures.steps c.requires.can.rest

pub returns-in-Err-clause-prefix : goal.returns-in-Err-clause-prefix
returns-in-Err-clause-prefix g c = grew_prefix-longer _ _ _ _ (grew_page_prefix c.args.moment c.args.pages.now _ _ c.requires.can.timely (c.in-Err.ensures.page_prefix (rest_home _ c.requires.can.rest)))

pub returns-in-Err-write_whole-clause-rests : goal.returns-in-Err-write_whole-clause-rests
returns-in-Err-write_whole-clause-rests g c = render_rests _ _ _ c.in-Ok.ensures.steps c.requires.can.rest

pub returns-in-Err-write_whole-clause-prefix : goal.returns-in-Err-write_whole-clause-prefix
returns-in-Err-write_whole-clause-prefix g c =
    grew_prefix-append _ _ _ _ _ (grew_page c.args.moment c.args.pages.now _ _ c.requires.can.timely (c.in-Ok.ensures.page (rest_home _ c.requires.can.rest))) c.in-Err-write_whole.ensures.prefix

pub returns-in-Ok-write_whole-clause-rests : goal.returns-in-Ok-write_whole-clause-rests
returns-in-Ok-write_whole-clause-rests g c = render_rests _ _ _ c.in-Ok.ensures.steps c.requires.can.rest

pub returns-in-Ok-write_whole-clause-shown : goal.returns-in-Ok-write_whole-clause-shown
returns-in-Ok-write_whole-clause-shown g c = record {
  page = grew-append _ _ _ _ _ (grew_page c.args.moment c.args.pages.now _ _ c.requires.can.timely (c.in-Ok.ensures.page (rest_home _ c.requires.can.rest))) c.in-Ok-write_whole.ensures.whole;
  stepped = elim (c.in-Ok.ensures.stepped (rest_home _ c.requires.can.rest)) [
    | inl stepped ↦ stepped
    | inr refused ↦ let ok_is_err = refused.0 in absurd cc
  ];
}

pub returns-in-Ok-write_whole-clause-prefix : goal.returns-in-Ok-write_whole-clause-prefix
returns-in-Ok-write_whole-clause-prefix g c = grew_prefix-whole _ _ _ (returns-in-Ok-write_whole-clause-shown g c).page
