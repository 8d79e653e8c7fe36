use Rattle.prom_exporter.proofs.TimelyPages.{summaries_body, summaries_page}
use Rattle.prom_exporter.proofs.laws.timely_pages_show_their_samples.Goals as goal

pub returns-clause-body : goal.returns-clause-body
returns-clause-body c = summaries_body

pub returns-clause-page : goal.returns-clause-page
returns-clause-page c = summaries_page
