use Rattle.std.proofs.Common.{subst}
use Rattle.std.specs.Prelude.{flat_map, string_bytes}
use Rattle.std.specs.Option.{option_copied}
use Rattle.prom_exporter.specs.Rows.{RowsText, kept_block}
use Rattle.prom_exporter.specs.Sending.{Sends}
use Rattle.prom_exporter.proofs.pages.write_families.Goals as goal

pub returns-clause-sends : goal.returns-clause-sends
returns-clause-sends g c =
    subst (λ (rows : RowsText). Sends c.write_blocks.result (g.K.Sink.written c.args.sink.now) (g.K.Sink.written c.write_blocks.new.sink) (string_bytes c.args.buffer.now) (string_bytes c.write_blocks.new.buffer)
    (flat_map (kept_block g.C.Shown.shown c.args.naming.now (option_copied c.args.suffix) c.args.family_type rows.label_sets c.args.series.now) rows.families))
    c.rows.view_is c.write_blocks.ensures.sends
