use Rattle.prom_format.proofs.PageText.{page_read}
use Rattle.prom_format.specs.Pages.{page_text}
use Rattle.page_relay.specs.Values.{families_of}
use Rattle.page_relay.proofs.Writing.{nothing_written, holds_on_err}
use Rattle.page_relay.proofs.writer.write_page.Goals as goal

pub returns-in_err-text-clause-page : goal.returns-in_err-text-clause-page
returns-in_err-text-clause-page g c = page_read (families_of c.args.page.now) c.requires

pub returns-in_err-text-clause-prefix : goal.returns-in_err-text-clause-prefix
returns-in_err-text-clause-prefix g c = holds_on_err c.from_residual.result _ (nothing_written (g.K.Sink.written c.args.sink.now) (page_text (families_of c.args.page.now)))

pub returns-then-is_err-clause-page : goal.returns-then-is_err-clause-page
returns-then-is_err-clause-page g c = page_read (families_of c.args.page.now) c.requires

pub returns-clause-page : goal.returns-clause-page
returns-clause-page g c = page_read (families_of c.args.page.now) c.requires
