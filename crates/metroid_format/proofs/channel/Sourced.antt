-- A channel's source, whose data are cut at the limit already.
use Prim.Native.Nat.{ℕ, ◌≤◌}
use mathlib.Core.List.{List}
use mathlib.Core.Path.{◌≡◌, ap, ◌∙◌}
use native.Mathlib.Omega.{arith}
use lib.ListN.{take}
use lib.Seq.{take-take}
use Rattle.metroid_format.specs.Command.{data_limit}
use Rattle.metroid_format.specs.Channel.{Source, source_of, channel_source}
use Rattle.metroid_format.specs.declared.header.Track.{Track}
use Rattle.metroid_format.specs.declared.header.Voice.{Voice}

abbrev cut : Source → Source
cut source = source_of source.kind (take data_limit source.bytes) source.lengths source.window source.start

pub source_cut : (bank : List ℕ) (track : Track) (voice : Voice) (source : Source) → source ≡ channel_source bank track voice →
    source_of source.kind (take data_limit source.bytes) source.lengths source.window source.start ≡ channel_source bank track voice
source_cut bank track voice source e =
    let same : data_limit ≤ data_limit = omega arith in
    ap cut e ∙ rw (take-take {A = ℕ} data_limit data_limit)
