-- The run with changed headers, computed.
use Rattle.std.proofs.Common.{refl}
use Rattle.header.specs.Headers.{header_of}
use Rattle.rules.specs.Assembly.{segment_step}
use Rattle.rules.specs.Changed.{ChangedHeaders}
use Rattle.rules.specs.Clocks.{setting_step}
use Rattle.rules.specs.Headers.{header_step}
use Rattle.rules.specs.Ledgers.{body_in, entered}
use Rattle.rules.specs.Runs.{step}

pub changed_headers : ChangedHeaders
unfolding step setting_step header_step header_of segment_step entered body_in
changed_headers =
    record { first = refl; placed_first = refl; expired = refl; changed = refl; last = refl; left = refl; history = refl }
