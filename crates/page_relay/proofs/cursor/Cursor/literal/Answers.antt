use Rattle.std.proofs.Common.{◌++◌, ◌∙◌, sym, ap}
use Rattle.page_relay.proofs.Names.{literal_none, literal_some}
use Rattle.page_relay.proofs.cursor.Cursor.literal.Goals as goal

pub returns-in_err-self-clause-taken : goal.returns-in_err-self-clause-taken
returns-in_err-self-clause-taken c = rw c.from_residual.ensures (λ rest e. literal_none c.args.literal.now c.args.self.now.rest.now rest c.in_err-self.ensures.cases e)

pub returns-clause-taken : goal.returns-clause-taken
returns-clause-taken c = literal_some c.args.literal.now c.args.self.now.rest.now c.in_ok-self.ensures.cases.0 ∙ ap (λ l. c.args.literal.now ++ l) (sym c.in_ok-self.ensures.cases.1)
