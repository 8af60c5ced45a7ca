-- The numbers of the refusals and of the layers: the only place that ties a cause or a layer to its number.
use Rattle.std.specs.Prelude.{ℕ}
use Rattle.refusal.specs.declared.causes.Cause.{Cause}
use Rattle.refusal.specs.declared.causes.Cause.TheVariants.{SettingOutOfRange, ShowOutOfBounds, BodyMemoryMisfit, HeaderCut, HeaderSizeDiffers, NeitherImageNorUpdate, BodySizeMisfit, ParameterPastEnd, ParameterAgain, ParameterMalformed, NameMissing, UpdateWithoutEffect, ExpiryNotAhead, SlideNotHeld, NoSlotToUse, NotArriving, SegmentMisfit, ReadingBelowClock, RecordMalformed, GroupMalformed, ChecksumDiffers, HeaderInParts}
use Rattle.refusal.specs.declared.causes.Layer as layers
use Rattle.refusal.specs.declared.causes.Layer.{Layer}

abbrev pub number_of : Cause → ℕ
number_of SettingOutOfRange = 1
number_of ShowOutOfBounds = 2
number_of BodyMemoryMisfit = 3
number_of HeaderCut = 4
number_of HeaderSizeDiffers = 5
number_of NeitherImageNorUpdate = 6
number_of BodySizeMisfit = 7
number_of ParameterPastEnd = 8
number_of ParameterAgain = 9
number_of ParameterMalformed = 10
number_of NameMissing = 11
number_of UpdateWithoutEffect = 12
number_of ExpiryNotAhead = 13
number_of SlideNotHeld = 14
number_of NoSlotToUse = 15
number_of NotArriving = 16
number_of SegmentMisfit = 17
number_of ReadingBelowClock = 18
number_of RecordMalformed = 19
number_of GroupMalformed = 20
number_of ChecksumDiffers = 21
number_of HeaderInParts = 22

abbrev pub layer_number : Layer → ℕ
layer_number layers.TheVariants.TimeField = 1
layer_number layers.TheVariants.Header = 2
layer_number layers.TheVariants.Assembly = 3
layer_number layers.TheVariants.Receiver = 4
layer_number layers.TheVariants.Display = 5
layer_number layers.TheVariants.Trace = 6
layer_number layers.TheVariants.DataGroup = 7
