use Rattle.prom_exporter.proofs.pages.write_rows.Goals as goal

pub returns-then-begin_page-clause-sends : goal.returns-then-begin_page-clause-sends
returns-then-begin_page-clause-sends g c are = c.write_kept_rows.ensures.sends (c.begin_page.ensures.rows c.args.label_sets.now c.args.places.now are)
