use Rattle.metrics_core.proofs.Grown.{grew-append, grew_prefix-append, grew_prefix-longer}
use Rattle.dsd_receiver.proofs.ReceivedPages.{grew_page, grew_page_prefix}
use Rattle.dsd_receiver.proofs.streams.write_page.Goals as goal

pub returns-in-Err-WriteFault-clause-prefix : goal.returns-in-Err-WriteFault-clause-prefix
returns-in-Err-WriteFault-clause-prefix g c =
    grew_prefix-longer _ _ _ _ (grew_page_prefix 0 c.args.state.now _ _ c.requires.timely (c.in-Err-WriteFault.ensures.page_prefix c.requires.home))

pub returns-in-Err-clause-prefix : goal.returns-in-Err-clause-prefix
returns-in-Err-clause-prefix g c =
    grew_prefix-longer _ _ _ _ (grew_page_prefix 0 c.args.state.now _ _ c.requires.timely (c.in-Err.ensures.page_prefix c.requires.home))

pub returns-in-Err-write_whole-clause-prefix : goal.returns-in-Err-write_whole-clause-prefix
returns-in-Err-write_whole-clause-prefix g c =
    grew_prefix-append _ _ _ _ _ (grew_page 0 c.args.state.now _ _ c.requires.timely (c.in-Ok.ensures.page c.requires.home)) c.in-Err-write_whole.ensures.prefix

pub returns-in-Ok-write_whole-clause-page : goal.returns-in-Ok-write_whole-clause-page
returns-in-Ok-write_whole-clause-page g c =
    grew-append _ _ _ _ _ (grew_page 0 c.args.state.now _ _ c.requires.timely (c.in-Ok.ensures.page c.requires.home)) c.in-Ok-write_whole.ensures.whole
