-- The meaning of each number of a fault or a refusal, and what to do about it.
use Rattle.std.specs.Prelude.{ℕ, ◌==◌, ◌++◌, List, [], ◌∷◌, Option, codes, option_map}
use Rattle.std.specs.List.{find}

-- a number, and its advice: the name, a sentence with its meaning, and a sentence with what to do
abbrev pub Advice : Type 0
Advice = ℕ × List ℕ

-- for the bytes of an LSA
abbrev pub lsa_faults : List Advice
lsa_faults =
    (1, codes "1 Length: There are fewer than 20 bytes, or the length field is not their number (RFC 2328, A.4.1). Hand in the whole LSA, header and body, and nothing behind it: a packet may have several.\n")
    ∷ (2, codes "2 Checksum: The checksum does not fit the bytes, or is zero (RFC 2328, 12.1.7). Drop the LSA; if you made it, take the checksum from sum_of, which leaves the LS age out.\n")
    ∷ (3, codes "3 Age: The LS age is above MaxAge, 3600 seconds (RFC 2328, 12.1.1). Drop the LSA; an age with the bit DoNotAge (RFC 1793) is above it too.\n")
    ∷ (4, codes "4 Sequence: The sequence number is the reserved 0x80000000 (RFC 2328, 12.1.6). Drop the LSA; the first number that a router uses is 0x80000001.\n")
    ∷ (5, codes "5 Kind: The LS type is not 1 to 5 (RFC 2328, A.4.1). Drop the LSA, or keep it elsewhere: opaque LSAs (RFC 5250) say nothing of these routes.\n")
    ∷ (6, codes "6 Reserved: A reserved byte is not zero, or the first record of an AS-external-LSA has a TOS (RFC 2328, A.4). Drop the LSA, and look at the router that made it.\n")
    ∷ (7, codes "7 Mask: A mask is not ones and then zeros, or the mask of a summary-LSA for an AS boundary router is not zero. Drop the LSA, and look at the router that made it.\n")
    ∷ (8, codes "8 RouterId: The Link State ID of a router-LSA is not its Advertising Router (RFC 2328, 12.1.4). Drop the LSA, and look at the router that made it.\n")
    ∷ (9, codes "9 LinkType: The type of a link is not 1 to 4 (RFC 2328, A.4.2). Drop the LSA, and look at the router that made it.\n")
    ∷ (10, codes "10 Shape: The body is cut off, has fewer links than it counts or no external record, or has bytes left over. Drop the LSA, and look at how its bytes were cut.\n")
    ∷ []

-- for an event
abbrev pub refusals : List Advice
refusals =
    (20, codes "20 NoArea: The area of the scope, of the interface or of the range is not configured. Name an area of the configuration; another one needs a new core.\n")
    ∷ (21, codes "21 Scope: An AS-external-LSA names an area, or another LSA names the AS. Take the database by the LS type: the AS for type 5, else the area of the interface.\n")
    ∷ (22, codes "22 Older: The database has a newer instance of the LSA (RFC 2328, 13.1). Do nothing; a daemon sends its neighbour the newer one (RFC 2328, 13 (8)).\n")
    ∷ (23, codes "23 Same: The database has this instance of the LSA already. Do nothing; a daemon acknowledges it (RFC 2328, 13.5).\n")
    ∷ (24, codes "24 NoLsa: The database has no such LSA. Do nothing; it has left already.\n")
    ∷ (25, codes "25 NotOwn: The LSA to flush is not the router's own (RFC 2328, 14.1). Leave it to its router.\n")
    ∷ (26, codes "26 NotMaxAge: The LSA to purge is not at MaxAge (RFC 2328, 14). Flush it first, or wait until it is 3600 seconds old.\n")
    ∷ (27, codes "27 Full: The LSA is new, and the database is at its limit. See who floods so many; a network of this size needs more areas.\n")
    ∷ (28, codes "28 JournalFull: As many events were taken since the base as the journal holds, or the last serial was given. Roll, and hand the event in again.\n")
    ∷ (29, codes "29 AddressTaken: The interface is up, and another one that is up has its address. Take the other one down first.\n")
    ∷ []

-- for an event, or a roll
abbrev pub later_refusals : List Advice
later_refusals =
    (11, codes "11 Behind: The event was taken, but memory ran out over what follows from it, and the table and due summaries are older. Free some memory, and call catch_up; the next event tries too.\n")
    ∷ (30, codes "30 Memory: Memory ran out before the event was taken, or the command done. Free some memory, and try again.\n")
    ∷ (31, codes "31 Spawn: A thread could not be started for a list of events. Hand in fewer lists, of more events each, or ask for fewer workers.\n")
    ∷ (32, codes "32 Workers: More than 16 lists of events were handed in at once. Hand in fewer lists, of more events each.\n")
    ∷ (34, codes "34 RangeOverlaps: Another range of the area covers the range to be set, or is covered by it. Drop the other one first.\n")
    ∷ (35, codes "35 NoRange: The area has no range with the prefix to be dropped. Do nothing, or give the prefix as it was set.\n")
    ∷ (36, codes "36 RangeFull: The range is new, and the area has 32 ranges. Drop one, or set one that covers several.\n")
    ∷ (37, codes "37 NotCurrent: The table, the due summaries or what is published follow fewer events than were taken, so there is no roll. Call catch_up, then roll.\n")
    ∷ []

-- for a configuration, a base, or an engine that is opened
abbrev pub config_faults : List Advice
config_faults =
    (40, codes "40 Areas: There is no area, or there are more than 16, or two have one Area ID. Configure 1 to 16 areas.\n")
    ∷ (41, codes "41 RangesOverlap: Of two ranges of an area one covers the other. Leave one of them out.\n")
    ∷ (42, codes "42 BackboneStub: The backbone is a stub area. Make it a normal area (RFC 2328, 3.6).\n")
    ∷ (43, codes "43 Cost: The default cost of a stub area is 16777215, LSInfinity, or more. Give a lower one.\n")
    ∷ (44, codes "44 RangeCount: An area has more than 32 ranges. Leave some out, or take one that covers several.\n")
    ∷ (45, codes "45 Readers: No forwarder is asked for, or more than 64 are. Ask for 1 to 64.\n")
    ∷ (46, codes "46 Place: There was no place for a forwarder. Ask for fewer.\n")
    ∷ (47, codes "47 Doubled: An interface ID, or a key in a scope, is twice in a base. Take the base of a core, or leave the older one out.\n")
    ∷ []

-- for a line of a recording
abbrev pub line_faults : List Advice
line_faults =
    (50, codes "50 Truncated: The line has no line feed, or it is one of the first lines and is missing. The file was cut off: write it again, or drop its last line.\n")
    ∷ (51, codes "51 Version: The first line is none of \"abr 1\", \"abr 2\" and \"abr 3\". See whether the file is a recording.\n")
    ∷ (52, codes "52 Line: The line has none of the forms of a recording of its version. Compare it with the lines in docs/FORMATS.md: one space between words, no leading zeros, no bit past a prefix, lower case.\n")
    ∷ (53, codes "53 Order: The line may not stand where it stands. Put it where the lines in docs/FORMATS.md say.\n")
    ∷ (54, codes "54 Wire: The bytes to install are no LSA; the number of their fault follows. See that number.\n")
    ∷ (55, codes "55 Config: The configuration, of which the line is the last, has a fault; its number follows. See that number.\n")
    ∷ (56, codes "56 Base: The interface or the LSA of the base has a fault: 20, 21, 27 or 29 follows. See that number.\n")
    ∷ []

-- for a call from C
abbrev pub call_faults : List Advice
call_faults =
    (60, codes "60 NoCore: No core is open there. Open one with abr_open or abr_open_base.\n")
    ∷ (61, codes "61 NoPrefix: The length is above 32, or a bit behind it is 1. Give a length of 0 to 32, and an address whose bits behind it are 0.\n")
    ∷ []

-- for a capture of a network, a pcap or a pcapng
abbrev pub capture_faults : List Advice
capture_faults =
    (62, codes "62 NoCapture: The first bytes are the magic number of neither a pcap nor a pcapng, or a section of a pcapng has no byte-order magic. See whether the file is a capture, and unpack it if it is compressed.\n")
    ∷ (63, codes "63 Version: The major version is not 2 in a pcap, or not 1 in a section of a pcapng. Convert the capture to one of these, with a program that reads it.\n")
    ∷ (64, codes "64 BlockLength: The length of a block is no multiple of 4, below the least of its type, not repeated at its end, or above 1 MiB in a block that is read. The file is damaged: copy it again, or look at the program that wrote it.\n")
    ∷ (65, codes "65 PacketLength: A packet has more captured bytes than its block, or more than 262144. The file is damaged, or its snapshot length is too large: copy it again, or capture with one of at most 262144.\n")
    ∷ (66, codes "66 NoInterface: A packet is of an interface that the section has not declared. The file is damaged, or blocks were left out: copy it again, or look at the program that wrote it.\n")
    ∷ (67, codes "67 Options: An option of an interface goes past the end of its block, or is of a wrong length. The file is damaged: copy it again, or look at the program that wrote it.\n")
    ∷ (68, codes "68 Resolution: The time of a packet is before 1970, or 2^64 nanoseconds or more after it. Look at the clock of the machine that captured it, and at the resolution and the offset of the interface.\n")
    ∷ (69, codes "69 CutOff: The capture ends within a header, a block or a packet, or before the first header. The file was cut off: copy it again, or wait until it is written to its end.\n")
    ∷ []

-- for an OSPF packet, and for the LSAs of a Link State Update
abbrev pub packet_faults : List Advice
packet_faults =
    (70, codes "70 Short: There are fewer than 24 bytes, which is a packet's header (RFC 2328, A.3.1). Drop the packet, and look at how its bytes were cut.\n")
    ∷ (71, codes "71 Version: The version of the packet is not 2 (RFC 2328, A.3.1). Drop the packet; version 3 (RFC 5340) is a protocol of its own.\n")
    ∷ (72, codes "72 Kind: The packet's type is not 1 to 5 (RFC 2328, A.3.1). Drop the packet, and look at the router that sent it.\n")
    ∷ (73, codes "73 Length: The packet's length is below 24, or more than the bytes that are there (RFC 2328, A.3.1). Drop the packet, and look at how its bytes were cut.\n")
    ∷ (74, codes "74 Checksum: The checksum does not fit the packet (RFC 2328, D.4.1, D.4.2). Drop the packet; its bytes were changed after they were sent, or its router is at fault.\n")
    ∷ (75, codes "75 Count: The body of a Link State Update has fewer than 4 bytes, which is the number of its LSAs (RFC 2328, A.3.5). Drop the packet, and look at the router that sent it.\n")
    ∷ (76, codes "76 LsaLength: Where an LSA of a Link State Update is to stand, the length in its header is below 20, or the body ends before the LSA (RFC 2328, A.3.5). Keep the LSAs before it, and look at the router that sent the packet.\n")
    ∷ []

-- for an IPv4 datagram
abbrev pub datagram_faults : List Advice
datagram_faults =
    (80, codes "80 Header: There are fewer than 20 bytes, the version is not 4, or the header's length is below 20 bytes or goes past the bytes (RFC 791, 3.1). Drop the datagram, and look at how its bytes were cut.\n")
    ∷ (81, codes "81 Length: The total length is below the header's, or goes past the bytes (RFC 791, 3.1). Drop the datagram; if the capture cut it, capture with a larger snapshot length.\n")
    ∷ (82, codes "82 Fragment: A fragment that is not the last has a payload of no whole blocks of 8 bytes, or a fragment ends past 65535 (RFC 791, 3.1). Drop the fragment, and look at the host that sent it.\n")
    ∷ []

-- the advice that the table has for the number
abbrev pub advice_in : List Advice → ℕ → Option (List ℕ)
advice_in table number = option_map (λ a. a.1) (find (λ a. number == a.0) table)

abbrev pub all_advice : List Advice
all_advice = lsa_faults ++ refusals ++ later_refusals ++ config_faults ++ line_faults ++ call_faults ++ capture_faults ++ packet_faults ++ datagram_faults

-- the advice for the number, where it is one of a fault or a refusal
abbrev pub advice_of : ℕ → Option (List ℕ)
advice_of number = advice_in all_advice number
