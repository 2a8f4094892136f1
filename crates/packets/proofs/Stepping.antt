-- The kept parts after one more fragment, of a datagram that is at a place or of one that begins.
use Rattle.std.proofs.Common.{◌≡◌, ◌≢◌, ℕ, zero, suc, ◌+◌, ◌-◌, ◌<◌, ◌≤◌, Bool, true, false, ◌&&◌, ◌||◌, not, ltb, List, [], ◌∷◌, ◌++◌, length, get_or, set, drop, refl, sym, ap, subst, ◌∙◌, Option, Some, None, Result, Ok, Err, OnOk, OnErr, unwrap_or, cond, Vec, Global, arith}
use Rattle.std.specs.Prelude.{if◌then◌else◌}
use Rattle.std.specs.List.{list_any, find, remove}
use Rattle.std.proofs.lemmas.List.{length-set, length-drop, get_or-drop}
use Rattle.std.proofs.lemmas.List.Edits.{length-remove}
use Rattle.std.proofs.lemmas.Option.{get_or_from_slice_get}
use Rattle.std.proofs.lemmas.Result.{on_ok_weaker}
use Rattle.std.proofs.lemmas.List.Quantifiers.{all_pairs_remove, all_pairs_push}
use Rattle.std.proofs.lemmas.List.Folds.{list_any_at}
use Rattle.packets.specs.declared.fragments.TheConstants.{MOST}
use Rattle.packets.specs.declared.datagram.TheConstants.{LONGEST}
use Rattle.packets.specs.declared.key.FragmentKey.{FragmentKey}
use Rattle.packets.specs.Parts.{FragmentPart, end_of}
use Rattle.packets.specs.Kept.{Kept, nothing_of, same_key, contradicts, with_part, is_whole, payload_of}
use Rattle.packets.specs.Keeping.{AreKeysApart, AreShort, has_key, kept_of, without, put, latest, is_done, kept_after, whole_with, changed, begun, whole_at_once, IsPayloadAnswer}
use Rattle.packets.proofs.Choices.{true_not_false}
use Rattle.packets.proofs.Making.{long_at}
use Rattle.packets.proofs.ByKey.{Stands, IsMissing, key_itself}

-- what is kept is few, and each with a key of its own
abbrev pub AreKept : List Kept → Type 0
AreKept all = (length all ≤ MOST) × AreKeysApart all × AreShort all

-- ---- a datagram that is at a place

pub changed_is : (key : FragmentKey) (p : FragmentPart) (all : List Kept) (place : ℕ) → Stands key all place → changed p (kept_of key all) all place ≡ kept_after key p all
changed_is key p all place stands =
    ap (λ (r : List Kept). if is_done p (kept_of key all) then r else set all place (with_part p (kept_of key all))) stands.out
    ∙ ap (λ (r : List Kept). if is_done p (kept_of key all) then without key all else r) (stands.other (with_part p (kept_of key all)))

pub went_on : {T E : Type 0} (r : Result T E) (key : FragmentKey) (p : FragmentPart) (all new : List Kept) (place : ℕ) → Stands key all place
    → OnOk r (new ≡ changed p (kept_of key all) all place) → OnOk r (new ≡ kept_after key p all)
went_on r key p all new place stands ok = on_ok_weaker r (λ e. e ∙ changed_is key p all place stands) ok

same_keys : (xs : List Kept) (p i : ℕ) (y d : Kept) → p < length xs → y.key ≡ (get_or xs p y).key → (get_or (set xs p y) i d).key ≡ (get_or xs i d).key
same_keys [] p i y d lt same = absurd (omega arith)
same_keys (x ∷ xs) zero zero y d lt same = same
same_keys (x ∷ xs) zero (suc i) y d lt same = refl
same_keys (x ∷ xs) (suc p) zero y d lt same = refl
same_keys (x ∷ xs) (suc p) (suc i) y d lt same = same_keys xs p i y d (omega arith) same

apart_set : (all : List Kept) (place : ℕ) (y : Kept) → place < length all → y.key ≡ (get_or all place y).key → AreKeysApart all → AreKeysApart (set all place y)
apart_set all place y lt same apart i j d below inside =
    let within : j < length all = omega (arith, length-set all place y) in
    λ e. apart i j d below within (sym (same_keys all place i y d lt same) ∙ e ∙ same_keys all place j y d lt same)

-- ---- bounds

short_remove : (all : List Kept) (place : ℕ) → place < length all → AreShort all → AreShort (remove all place)
short_remove [] place lt short = absurd (omega arith)
short_remove (x ∷ all) zero lt short = short.1
short_remove (x ∷ all) (suc place) lt short = (short.0, short_remove all place (omega arith) short.1)

short_set : (all : List Kept) (place : ℕ) (y : Kept) → place < length all → length y.bytes ≤ LONGEST → AreShort all → AreShort (set all place y)
short_set [] place y lt bound short = absurd (omega arith)
short_set (x ∷ all) zero y lt bound short = (bound, short.1)
short_set (x ∷ all) (suc place) y lt bound short = (short.0, short_set all place y (omega arith) bound short.1)

short_push : (all : List Kept) (w : Kept) → length w.bytes ≤ LONGEST → AreShort all → AreShort (all ++ w ∷ [])
short_push [] w bound short = (bound, tt)
short_push (x ∷ all) w bound short = (short.0, short_push all w bound short.1)

short_drop : (n : ℕ) (all : List Kept) → AreShort all → AreShort (drop n all)
short_drop zero all short = short
short_drop (suc n) [] short = tt
short_drop (suc n) (x ∷ all) short = short_drop n all short.1

short_step : (b : Bool) (key : FragmentKey) (kept : Kept) (all : List Kept) → has_key key kept ≡ b → length kept.bytes ≤ LONGEST → length (kept_of key all).bytes ≤ LONGEST
    → length (kept_of key (kept ∷ all)).bytes ≤ LONGEST
short_step true key kept all e here rest = subst (λ b. length (unwrap_or (cond b (Some kept) (find (has_key key) all)) (nothing_of key)).bytes ≤ LONGEST) (sym e) here
short_step false key kept all e here rest = subst (λ b. length (unwrap_or (cond b (Some kept) (find (has_key key) all)) (nothing_of key)).bytes ≤ LONGEST) (sym e) rest

short_found : (key : FragmentKey) (all : List Kept) → AreShort all → length (kept_of key all).bytes ≤ LONGEST
short_found key [] short = omega arith
short_found key (kept ∷ all) short = short_step (has_key key kept) key kept all refl short.0 (short_found key all short.1)

short_with : (p : FragmentPart) (kept : Kept) → end_of p ≤ LONGEST → length kept.bytes ≤ LONGEST → length (with_part p kept).bytes ≤ LONGEST
short_with p kept fits short = omega (arith, long_at p kept.bytes)

changed_kept : (done : Bool) (all : List Kept) (place : ℕ) (y : Kept) → place < length all → y.key ≡ (get_or all place y).key → length y.bytes ≤ LONGEST → AreKept all
    → AreKept (if done then remove all place else set all place y)
changed_kept true all place y lt same bound kept =
    (omega (arith, length-remove all place lt, kept.0), all_pairs_remove (λ (a : Kept) (b : Kept). a.key ≢ b.key) all place lt kept.1, short_remove all place lt kept.2)
changed_kept false all place y lt same bound kept =
    (omega (arith, length-set all place y, kept.0), apart_set all place y lt same kept.1, short_set all place y lt bound kept.2)

pub still_kept : {T E : Type 0} (r : Result T E) (key : FragmentKey) (p : FragmentPart) (all new : List Kept) (place : ℕ) → end_of p ≤ LONGEST → Stands key all place
    → OnOk r (new ≡ changed p (kept_of key all) all place) → OnErr r (new ≡ all) → AreKept all → AreKept new
still_kept (Ok x) key p all new place fits stands ok err kept =
    let y : Kept = with_part p (kept_of key all) in
    let here : get_or all place y ≡ kept_of key all = get_or_from_slice_get all place (kept_of key all) y stands.here in
    subst AreKept (sym ok) (changed_kept (is_done p (kept_of key all)) all place y stands.inside (ap (λ (k : Kept). k.key) (sym here)) (short_with p (kept_of key all) fits (short_found key all kept.2)) kept)
still_kept (Err e) key p all new place fits stands ok err kept = subst AreKept (sym err) kept

-- ---- a datagram that begins

no_last : (b : Bool) (n : ℕ) → (b && ltb n 0) ≡ false
no_last true n = grind arith
no_last false n = refl

pub nothing_contradicts : (p : FragmentPart) (key : FragmentKey) → contradicts p (nothing_of key) ≡ false
nothing_contradicts p key = no_last p.is_last (end_of p)

-- kept_after, by what was kept of the datagram
abbrev after_from : FragmentKey → FragmentPart → List Kept → Kept → List Kept
after_from key p all kept = if is_done p kept then without key all else put key (with_part p kept) all

pub begun_is : (key : FragmentKey) (p : FragmentPart) (all : List Kept) → IsMissing key all → begun (with_part p (nothing_of key)) all ≡ kept_after key p all
begun_is key p all missing =
    let w : Kept = with_part p (nothing_of key) in
    ap (λ (r : List Kept). if is_whole w then r else latest (all ++ w ∷ [])) (sym missing.whole)
    ∙ ap (λ (r : List Kept). if is_whole w then without key all else r) (sym (missing.last w))
    ∙ ap (λ b. if b || is_whole w then without key all else put key w all) (sym (nothing_contradicts p key))
    ∙ ap (after_from key p all) (sym missing.nothing)

pub began : {T E : Type 0} (r : Result T E) (key : FragmentKey) (p : FragmentPart) (all new : List Kept) → IsMissing key all
    → OnOk r (new ≡ begun (with_part p (nothing_of key)) all) → OnOk r (new ≡ kept_after key p all)
began r key p all new missing ok = on_ok_weaker r (λ e. e ∙ begun_is key p all missing) ok

pub whole_is : (key : FragmentKey) (p : FragmentPart) (all : List Kept) → IsMissing key all → whole_at_once (with_part p (nothing_of key)) ≡ whole_with p (kept_of key all)
whole_is key p all missing =
    let w : Kept = with_part p (nothing_of key) in
    let none : Option (List ℕ) = None in
    ap (λ b. if not b && is_whole w then Some (payload_of w) else none) (sym (nothing_contradicts p key))
    ∙ ap (whole_with p) (sym missing.nothing)

apart_drop : (n : ℕ) (all : List Kept) → AreKeysApart all → AreKeysApart (drop n all)
apart_drop n all apart i j d below inside =
    let within : n + j < length all = omega (arith, length-drop n all) in
    λ e. apart (n + i) (n + j) d (omega arith) within (ap (λ (k : Kept). k.key) (sym (get_or-drop n all i d)) ∙ e ∙ ap (λ (k : Kept). k.key) (get_or-drop n all j d))

other_key : (key : FragmentKey) (all : List Kept) (k : ℕ) (d : Kept) → list_any (has_key key) all ≡ false → k < length all → (get_or all k d).key ≢ key
other_key key all k d none lt e =
    let passes : has_key key (get_or all k d) ≡ true = ap (λ (o : FragmentKey). same_key o key) e ∙ key_itself key in
    let some : list_any (has_key key) all ≡ true = list_any_at (has_key key) all k d lt passes in
    true_not_false some none

latest_kept : (all : List Kept) → AreKeysApart all → AreShort all → AreKept (latest all)
latest_kept all apart short = (omega (arith, length-drop (length all - MOST) all), apart_drop (length all - MOST) all apart, short_drop (length all - MOST) all short)

pub apart_push : (all : List Kept) (w : Kept) → list_any (has_key w.key) all ≡ false → AreKeysApart all → AreKeysApart (all ++ w ∷ [])
apart_push all w none apart = all_pairs_push (λ (a : Kept) (b : Kept). a.key ≢ b.key) all w apart (λ k d lt. other_key w.key all k d none lt)

begun_kept : (whole : Bool) (all : List Kept) (w : Kept) → list_any (has_key w.key) all ≡ false → length w.bytes ≤ LONGEST → AreKept all → AreKept (if whole then all else latest (all ++ w ∷ []))
begun_kept true all w none bound kept = kept
begun_kept false all w none bound kept = latest_kept (all ++ w ∷ []) (apart_push all w none kept.1) (short_push all w bound kept.2)

pub begun_still : {T E : Type 0} (r : Result T E) (key : FragmentKey) (p : FragmentPart) (all new : List Kept) → end_of p ≤ LONGEST → IsMissing key all
    → OnOk r (new ≡ begun (with_part p (nothing_of key)) all) → OnErr r (new ≡ all) → AreKept all → AreKept new
begun_still (Ok x) key p all new fits missing ok err kept =
    let w : Kept = with_part p (nothing_of key) in
    subst AreKept (sym ok) (begun_kept (is_whole w) all w missing.none (short_with p (nothing_of key) fits (omega arith)) kept)
begun_still (Err e) key p all new fits missing ok err kept = subst AreKept (sym err) kept

-- ---- answers

pub same_answer : {E : Type 0} (r : Result (Option (Vec ℕ Global)) E) (a b : Option (List ℕ)) → a ≡ b → IsPayloadAnswer r a → IsPayloadAnswer r b
same_answer r a b e answer = subst (IsPayloadAnswer r) e answer
