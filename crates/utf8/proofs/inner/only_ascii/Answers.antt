-- The bytes are ASCII exactly if their bits together are below 80.
use Rattle.std.proofs.Common.{rules}
use Rattle.utf8.proofs.Ascii.{or_ascii}
use Rattle.utf8.proofs.inner.only_ascii.Goals as goal

pub returns : goal.returns
returns g c = or_ascii c.args.bytes.now (search rules)
