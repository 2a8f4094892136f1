-- The part of the lines that was written, if no more are.
use Rattle.std.specs.Prelude.{ℕ, List, Option}
use Rattle.capture_recording.specs.Rules.{Rules}
use Rattle.replay.specs.Writing.{AppendsPart}
use Rattle.capture_recording.specs.declared.fault.CapturingFault.{CapturingFault}
use Rattle.capture_recording.specs.declared.fault.CapturingFault.TheVariants.{Capture, Read, Line, Config, Unsaid, Write, Closed, Memory}
use Rattle.capture_recording.specs.FirstPackets.{FirstPackets}
use Rattle.capture_recording.specs.Said.{AppendsUpTo}
use Rattle.capture_recording.specs.Texts.{notes_of}

-- memory ran out after some of the packets
abbrev pub IsGatheredUpTo : Rules → (before told_before told : Option (List ℕ)) → Type 0
IsGatheredUpTo rules before told_before told =
    (left : Option (List ℕ)) × FirstPackets rules before left (λ at steps lines. AppendsUpTo told_before told (notes_of steps))

-- a part of the lines was written, and not all
abbrev pub AreLinesPart : Rules → (before after old new told_before told : Option (List ℕ)) → Type 0
AreLinesPart rules before after old new told_before told =
    FirstPackets rules before after (λ at steps lines. AppendsPart old new lines × AppendsUpTo told_before told (notes_of steps))

-- memory ran out after some of the packets, whose lines were written in part
abbrev pub AreLinesUpTo : Rules → (before old new told_before told : Option (List ℕ)) → Type 0
AreLinesUpTo rules before old new told_before told =
    (left : Option (List ℕ)) × FirstPackets rules before left (λ at steps lines. AppendsUpTo old new lines × AppendsUpTo told_before told (notes_of steps))

-- the reason why no further lines were written
abbrev pub StreamsPart : Rules → (before after old new told_before told : Option (List ℕ)) → CapturingFault → Type 0
StreamsPart rules before after old new told_before told (Capture kind place) = ⊥
StreamsPart rules before after old new told_before told Read = ⊥
StreamsPart rules before after old new told_before told (Line fault) = ⊥
StreamsPart rules before after old new told_before told (Config fault) = ⊥
StreamsPart rules before after old new told_before told Unsaid = ⊥
StreamsPart rules before after old new told_before told Write = AreLinesPart rules before after old new told_before told
StreamsPart rules before after old new told_before told Closed = AreLinesPart rules before after old new told_before told
StreamsPart rules before after old new told_before told Memory = AreLinesUpTo rules before old new told_before told
