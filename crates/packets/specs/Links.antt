-- Which frames carry an IPv4 packet, by the link type of their capture.
use Rattle.std.specs.Prelude.{ℕ, ◌==◌, ◌||◌, if◌then◌else◌, List, Option, Some, None}
use Rattle.packets.specs.declared.link.LinkType.{LinkType}
use Rattle.packets.specs.declared.link.LinkType.TheVariants.{Null, Ethernet, Raw, Loop, CookedV1, CookedV2}
use Rattle.packets.specs.Frames.{IsEthernet, IsCookedV1, IsCookedV2, IsHighFirst, IsAnyFirst, IsVersion4}

-- the numbers of the link types
abbrev pub link_of_number : ℕ → Option LinkType
link_of_number number =
    if number == 0 then Some Null else (if number == 1 then Some Ethernet else (if number == 12 || number == 101 || number == 228 then Some Raw else (if number == 108 then Some Loop else (if number == 113 then Some CookedV1 else (if number == 276 then Some CookedV2 else None)))))

-- the frame carries the IPv4 packet; bytes that the link has put after it count to it
abbrev pub Carries : LinkType → List ℕ → List ℕ → Type 0
Carries Null frame packet = IsAnyFirst frame packet
Carries Ethernet frame packet = IsEthernet frame packet
Carries Raw frame packet = IsVersion4 frame packet
Carries Loop frame packet = IsHighFirst frame packet
Carries CookedV1 frame packet = IsCookedV1 frame packet
Carries CookedV2 frame packet = IsCookedV2 frame packet
