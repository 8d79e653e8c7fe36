use Rattle.std.proofs.Common.{◌≡◌, ℕ, List, Option, Result, Ok, Err}
use Rattle.std.specs.Prelude.{IfOk, MatchOption, option_map}
use Rattle.dsd_lines.specs.Grammar.{IsLineIn}
use Rattle.dsd_lines.specs.Reading.{line_at}
use Rattle.dsd_lines.specs.Texts.{IsNoLineIn, line_text}
use Rattle.dsd_lines.specs.declared.dialects.Dialect.{Dialect}
use Rattle.dsd_lines.specs.declared.lines.Line.{Line}
use Rattle.dsd_lines.proofs.Exact.{read_exactly}
use Rattle.dsd_lines.proofs.lines.read_line.Goals as goal

exactly : {E : Type 0} (dialect : Dialect) (bytes : List ℕ) (result : Result (Option Line) E) → IfOk result (λ line. option_map line_text line ≡ line_at dialect bytes) → IfOk result (λ line. MatchOption line (IsNoLineIn dialect bytes) (λ line. IsLineIn dialect bytes (line_text line)))
exactly dialect bytes (Ok line) h = read_exactly dialect bytes line h
exactly dialect bytes (Err e) h = tt

pub returns : goal.returns
returns c = exactly c.args.dialect c.args.bytes.now c.read_parts.result c.read_parts.ensures
