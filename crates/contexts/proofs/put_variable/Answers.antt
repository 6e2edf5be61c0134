-- `contexts::put_variable` meets its contract.
use Rattle.contexts.proofs.Variables.{variable_put}
use Rattle.contexts.proofs.put_variable.Goals as goal

pub returns : goal.returns
returns c = variable_put c.args.slots.now c.args.n c.args.m c.put_byte.new.slots c.put_byte.ensures
