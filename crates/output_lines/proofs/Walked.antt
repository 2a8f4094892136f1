-- Records, TOS entries and links, put one at a time as a loop does it: what is printed of the rest
-- completes what is printed of all.
use Rattle.std.proofs.Common.{◌≡◌, ◌∙◌, ◌++◌, ◌+◌, ◌-◌, ◌*◌, ◌<◌, ◌≤◌, List, ℕ, suc, length, map, take, drop, codes, refl, sym, ap, subst, append_assoc, arith}
use Rattle.std.specs.List.{flat_map}
use Rattle.std.proofs.lemmas.Bool.{le-leb}
use Rattle.std.proofs.lemmas.List.{append-nil, length-drop, length-map}
use Rattle.ospf_types.specs.Lsa.{RouterLink, Tos}
use Rattle.lsa_codec.specs.Faults.{raw_entries, raw_link, link_size, Walk, walk}
use Rattle.lsa_codec.specs.Decoding.{link_of, tos_of, records}
use Rattle.lsa_codec.specs.Left.{AreThere}
use Rattle.lsa_codec.proofs.Checksums.{from_place}
use Rattle.lsa_codec.proofs.Left.{next_link}
use Rattle.lsa_codec.proofs.Walks.{entries_more, walk_more, walk_done}
use Rattle.output_lines.specs.Bytes.{link_tos_at}
use Rattle.output_lines.specs.Fields.{number_line}
use Rattle.output_lines.specs.Words.{link_words, links_words, counted_links}
use Rattle.output_lines.proofs.Texts.{two_printed, line_of}

-- one more item is printed
more_printed : (old here others new all : List ℕ) → old ++ (here ++ others) ≡ all → new ≡ old ++ here → new ++ others ≡ all
more_printed old here others new all so_far written =
    ap (λ (t : List ℕ). t ++ others) written ∙ append_assoc old here others ∙ so_far

-- ---- records of one size

-- this many records are left, and what is printed of them is to come
pub record RecordsLeft {A : Type 0} (decode : List ℕ → A) (size : ℕ) (words : A → List ℕ) (left : ℕ) (rest now all : List ℕ) : Type 0 where
  pub room : left * size ≤ length rest
  pub printed : now ++ flat_map words (records decode size left rest) ≡ all

pub records_begin : {A : Type 0} (decode : List ℕ → A) (size : ℕ) (words : A → List ℕ) (n : ℕ) (bytes old : List ℕ) → n * size ≤ length bytes
    → RecordsLeft decode size words (n - 0) bytes old (old ++ flat_map words (records decode size n bytes))
records_begin decode size words n bytes old room = let k : n - 0 ≡ n = omega arith in rw k (record { room = room; printed = refl })

pub records_one : {A : Type 0} (decode : List ℕ → A) (size : ℕ) (words : A → List ℕ) (n i : ℕ) (rest now all : List ℕ) → i < n → RecordsLeft decode size words (n - i) rest now all → size ≤ length rest
records_one decode size words n i rest now all lt left =
    let k : n - i ≡ suc (n - (i + 1)) = omega arith in
    let room : suc (n - (i + 1)) * size ≤ length rest = subst (λ (m : ℕ). m * size ≤ length rest) k left.room in
    omega (arith, room)

pub records_more : {A : Type 0} (decode : List ℕ → A) (size : ℕ) (words : A → List ℕ) (n i : ℕ) (rest now new all : List ℕ) → i < n → RecordsLeft decode size words (n - i) rest now all → new ≡ now ++ words (decode rest)
    → RecordsLeft decode size words (n - (i + 1)) (take (length rest - size) (drop size rest)) new all
records_more decode size words n i rest now new all lt left written =
    let k : n - i ≡ suc (n - (i + 1)) = omega arith in
    let room : suc (n - (i + 1)) * size ≤ length rest = subst (λ (m : ℕ). m * size ≤ length rest) k left.room in
    let so_far : now ++ (words (decode rest) ++ flat_map words (records decode size (n - (i + 1)) (drop size rest))) ≡ all = ap (λ (m : ℕ). now ++ flat_map words (records decode size m rest)) (sym k) ∙ left.printed in
    rw (from_place size rest) (record {
      room = omega (arith, room, length-drop size rest);
      printed = more_printed now (words (decode rest)) (flat_map words (records decode size (n - (i + 1)) (drop size rest))) new all so_far written;
    })

pub records_end : {A : Type 0} (decode : List ℕ → A) (size : ℕ) (words : A → List ℕ) (n i : ℕ) (rest now all : List ℕ) → n ≤ i → RecordsLeft decode size words (n - i) rest now all → now ≡ all
records_end decode size words n i rest now all le left =
    let k : 0 ≡ n - i = omega arith in
    sym (append-nil now) ∙ ap (λ (m : ℕ). now ++ flat_map words (records decode size m rest)) k ∙ left.printed

-- ---- the TOS entries of a link

pub record EntriesLeft (words : Tos → List ℕ) (left : ℕ) (rest now all : List ℕ) : Type 0 where
  pub room : 4 * left ≤ length rest
  pub printed : now ++ flat_map words (map tos_of (raw_entries left rest)) ≡ all

pub entries_begin : (words : Tos → List ℕ) (n : ℕ) (bytes old : List ℕ) → 4 * n ≤ length bytes → EntriesLeft words (n - 0) bytes old (old ++ flat_map words (map tos_of (raw_entries n bytes)))
entries_begin words n bytes old room = let k : n - 0 ≡ n = omega arith in rw k (record { room = room; printed = refl })

pub entries_put : (words : Tos → List ℕ) (n i : ℕ) (rest now new all : List ℕ) → i < n → EntriesLeft words (n - i) rest now all → new ≡ now ++ words (link_tos_at rest)
    → EntriesLeft words (n - (i + 1)) (take (length rest - 4) (drop 4 rest)) new all
entries_put words n i rest now new all lt left written =
    let others : List ℕ = flat_map words (map tos_of (raw_entries (n - (i + 1)) (drop 4 rest))) in
    let step : flat_map words (map tos_of (raw_entries (n - i) rest)) ≡ words (link_tos_at rest) ++ others = ap (λ r. flat_map words (map tos_of r)) (entries_more n i rest lt) in
    let so_far : now ++ (words (link_tos_at rest) ++ others) ≡ all = ap (λ (t : List ℕ). now ++ t) (sym step) ∙ left.printed in
    rw (from_place 4 rest) (record {
      room = omega (arith, left.room, lt, length-drop 4 rest);
      printed = more_printed now (words (link_tos_at rest)) others new all so_far written;
    })

pub entries_end : (words : Tos → List ℕ) (n i : ℕ) (rest now all : List ℕ) → n ≤ i → EntriesLeft words (n - i) rest now all → now ≡ all
unfolding raw_entries
entries_end words n i rest now all le left =
    let k : 0 ≡ n - i = omega arith in
    sym (append-nil now) ∙ ap (λ (m : ℕ). now ++ flat_map words (map tos_of (raw_entries m rest))) k ∙ left.printed

-- ---- the links of a router-LSA

abbrev pub links_in : ℕ → List ℕ → List RouterLink
links_in count bytes = map link_of (walk count bytes).met

-- this many links are left, the first of which has the number
pub record LinksLeft (number left : ℕ) (rest now all : List ℕ) : Type 0 where
  pub there : AreThere left rest
  pub printed : now ++ links_words number (links_in left rest) ≡ all

pub links_begin : (n : ℕ) (bytes old : List ℕ) → AreThere n bytes → LinksLeft 1 (n - 0) bytes old (old ++ links_words 1 (links_in n bytes))
links_begin n bytes old there = let k : n - 0 ≡ n = omega arith in rw k (record { there = there; printed = refl })

pub link_whole : (n i : ℕ) (rest now all : List ℕ) → i < n → LinksLeft (i + 1) (n - i) rest now all → link_size rest ≤ length rest
link_whole n i rest now all lt left = (next_link (n - i) rest (omega (arith, lt)) left.there).whole

pub link_put : (n i size : ℕ) (rest now new all : List ℕ) → i < n → size ≡ link_size rest → LinksLeft (i + 1) (n - i) rest now all → new ≡ now ++ link_words (i + 1) (link_of (raw_link rest))
    → LinksLeft ((i + 1) + 1) (n - (i + 1)) (take (length rest - size) (drop size rest)) new all
link_put n i size rest now new all lt is left written =
    let next = next_link (n - i) rest (omega (arith, lt)) left.there in
    let k : (n - i) - 1 ≡ n - (i + 1) = omega arith in
    let behind : List ℕ = drop (link_size rest) rest in
    let place : take (length rest - size) (drop size rest) ≡ behind = from_place size rest ∙ ap (λ (s : ℕ). drop s rest) is in
    let here : List ℕ = link_words (i + 1) (link_of (raw_link rest)) in
    let others : List ℕ = links_words ((i + 1) + 1) (links_in (n - (i + 1)) behind) in
    let step : links_words (i + 1) (links_in (n - i) rest) ≡ here ++ others = ap (λ (w : Walk). links_words (i + 1) (map link_of w.met)) (walk_more n i rest lt (le-leb _ _ next.whole)) in
    let so_far : now ++ (here ++ others) ≡ all = ap (λ (t : List ℕ). now ++ t) (sym step) ∙ left.printed in
    rw place (record {
      there = subst (λ (m : ℕ). AreThere m behind) k next.there;
      printed = more_printed now here others new all so_far written;
    })

pub links_end : (n i : ℕ) (rest now all : List ℕ) → n ≤ i → LinksLeft (i + 1) (n - i) rest now all → now ≡ all
links_end n i rest now all le left =
    sym (append-nil now) ∙ ap (λ (w : Walk). now ++ links_words (i + 1) (map link_of w.met)) (sym (walk_done n i rest le)) ∙ left.printed

-- after the number of links
pub links_counted : (n : ℕ) (bytes old begun new : List ℕ) → AreThere n bytes → begun ≡ old ++ number_line (codes "Links") n → new ≡ begun ++ links_words 1 (links_in n bytes)
    → new ≡ old ++ counted_links (links_in n bytes)
links_counted n bytes old begun new there first written =
    let count : n ≡ length (links_in n bytes) = sym (length-map (walk n bytes).met link_of ∙ there) in
    two_printed old (number_line (codes "Links") (length (links_in n bytes))) (links_words 1 (links_in n bytes)) begun new (line_of (number_line (codes "Links")) old begun n (length (links_in n bytes)) count first) written
