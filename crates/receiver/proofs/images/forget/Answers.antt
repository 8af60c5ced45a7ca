use Rattle.std.proofs.Common.{get_or, ap, ◌∙◌}
use Rattle.rack.specs.Listed.{filed}
use Rattle.slots.specs.Contents.{slide_held}
use Rattle.slots.specs.Seen.{all_seen}
use Rattle.slots.specs.Slides.{free}
use Rattle.receiver.proofs.Begun.{without_none}
use Rattle.receiver.proofs.Looks.{not_numbered}
use Rattle.receiver.proofs.images.forget.Goals as goal

pub returns-in_default : goal.returns-in_default
returns-in_default c =
    let z = get_or (all_seen c.args.slots.now) c.args.k.index free in
    without_none (filed c.args.places.now) z (not_numbered z (c.in_default.ensures ∙ ap slide_held c.at.ensures.seen))
