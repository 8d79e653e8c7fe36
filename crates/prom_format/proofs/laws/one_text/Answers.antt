use Rattle.prom_format.proofs.PageText.{body_is, body_read, page_is, page_read}
use Rattle.prom_format.proofs.laws.one_text.Goals as goal

pub returns-clause-body : goal.returns-clause-body
returns-clause-body c = body_is

pub returns-clause-body_read : goal.returns-clause-body_read
returns-clause-body_read c = body_read

pub returns-clause-page : goal.returns-clause-page
returns-clause-page c = page_is

pub returns-clause-page_read : goal.returns-clause-page_read
returns-clause-page_read c = page_read
