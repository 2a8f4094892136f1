-- The events that an author wrote, after one more page and in a longer log.
use Rattle.std.proofs.Common.{◌≡◌, ◌≢◌, ℕ, ◌==◌, Bool, true, false, if◌then◌else◌, List, [], ◌∷◌, ◌++◌, ◌≤◌, length, refl, ap, sym, ◌∙◌, subst, arith}
use Rattle.std.proofs.lemmas.List.{append-nil}
use Rattle.std.proofs.lemmas.Bool.Decides.{nat_tests}
use mathlib.Core.List.{IsPrefix}
use Rattle.event_state.specs.declared.event.Event.{Event}
use Rattle.publication.specs.declared.history.Page.{Page}
use Rattle.publication.proofs.Prefixes.{prefix_shorter, prefix_trans}
use Rattle.publication.specs.HistoryRules.{written, key_after, AreOthers, IsPageWritten}

written_joined : (b : Bool) (e : Event) (here later here_first later_first : List Event) (first second : ℕ) (ys : List Page)
    → here ≡ here_first ++ written first ys → later ≡ later_first ++ written second ys
    → (if b then e ∷ here else later) ≡ (if b then e ∷ here_first else later_first) ++ written (if b then first else second) ys
written_joined true e here later here_first later_first first second ys one two = ap (λ l. e ∷ l) one
written_joined false e here later here_first later_first first second ys one two = two

pub written-append : (key : ℕ) (xs ys : List Page) → written key (xs ++ ys) ≡ written key xs ++ written (key_after key xs) ys
written-append key [] ys = refl
written-append key (p ∷ xs) ys =
    written_joined (p.pen == key) p.event (written p.next (xs ++ ys)) (written key (xs ++ ys)) (written p.next xs) (written key xs) (key_after p.next xs) (key_after key xs) ys (written-append p.next xs ys) (written-append key xs ys)

key_joined : (b : Bool) (here later first second : ℕ) (ys : List Page)
    → here ≡ key_after first ys → later ≡ key_after second ys
    → (if b then here else later) ≡ key_after (if b then first else second) ys
key_joined true here later first second ys one two = one
key_joined false here later first second ys one two = two

pub key_after-append : (key : ℕ) (xs ys : List Page) → key_after key (xs ++ ys) ≡ key_after (key_after key xs) ys
key_after-append key [] ys = refl
key_after-append key (p ∷ xs) ys =
    key_joined (p.pen == key) (key_after p.next (xs ++ ys)) (key_after key (xs ++ ys)) (key_after p.next xs) (key_after key xs) ys (key_after-append p.next xs ys) (key_after-append key xs ys)

-- in a longer log there is no less
pub written_prefix : (key : ℕ) (xs ys : List Page) → IsPrefix xs ys → IsPrefix (written key xs) (written key ys)
written_prefix key xs ys p = (written (key_after key xs) p.0, sym (written-append key xs p.0) ∙ ap (written key) p.1)

not_here : (a b : ℕ) → a ≢ b → (a == b) ≡ false
not_here a b ne = grind (arith, nat_tests)

here : (a b : ℕ) → a ≡ b → (a == b) ≡ true
here a b is = grind (arith, nat_tests)

-- pages of other pens add nothing
unwritten : (key : ℕ) (ps : List Page) → AreOthers key ps → (written key ps ≡ []) × (key_after key ps ≡ key)
unwritten key [] all = (refl, refl)
unwritten key (p ∷ ps) all =
    let rest = unwritten key ps all.1 in
    let no = not_here p.pen key all.0 in (
      ap (λ (b : Bool). if b then p.event ∷ written p.next ps else written key ps) no ∙ rest.0,
      ap (λ (b : Bool). if b then key_after p.next ps else key_after key ps) no ∙ rest.1,
    )

others_rest : (key : ℕ) (xs ys : List Page) → AreOthers key (xs ++ ys) → AreOthers key ys
others_rest key [] ys all = all
others_rest key (p ∷ xs) ys all = others_rest key xs ys all.1

-- where the pen wrote nothing of a longer log, its one owner wrote there what it had written
pub stays : (key : ℕ) (v log : List Page) → IsPrefix v log → AreOthers (key_after key v) log → (written key log ≡ written key v) × (key_after key log ≡ key_after key v)
stays key v log pre all =
    let more = pre.0 in
    let rest = unwritten (key_after key v) more (others_rest (key_after key v) v more (subst (AreOthers (key_after key v)) (sym pre.1) all)) in (
      ap (written key) (sym pre.1) ∙ written-append key v more ∙ ap (λ l. written key v ++ l) rest.0 ∙ append-nil (written key v),
      ap (key_after key) (sym pre.1) ∙ key_after-append key v more ∙ rest.1,
    )

-- the page of the author's pen, after pages that it had not written
pub goes_on : (key : ℕ) (v log : List Page) (p : Page) → IsPrefix v log → AreOthers (key_after key v) log → p.pen ≡ key_after key v
    → (written key (log ++ p ∷ []) ≡ written key v ++ p.event ∷ []) × (key_after key (log ++ p ∷ []) ≡ p.next)
goes_on key v log p pre all mine =
    let same = stays key v log pre all in
    let yes : (p.pen == key_after key log) ≡ true = here p.pen (key_after key log) (mine ∙ sym same.1) in (
      written-append key log (p ∷ []) ∙ ap (λ (b : Bool). written key log ++ (if b then p.event ∷ [] else [])) yes ∙ ap (λ l. l ++ p.event ∷ []) same.0,
      key_after-append key log (p ∷ []) ∙ ap (λ (b : Bool). if b then p.next else key_after key log) yes,
    )

-- the events that the author of a page wrote then, and the key of its next pen
pub wrote : (key : ℕ) (v now : List Page) (mine next : ℕ) (e : Event) (ask : Page) → ask ≡ record { event = e; pen = mine; next = next } → key_after key v ≡ mine → IsPageWritten v ask now
    → (written key now ≡ written key v ++ e ∷ []) × (key_after key now ≡ next)
wrote key v now mine next e ask is at step =
    let pen : ask.pen ≡ key_after key v = ap (λ (p : Page). p.pen) is ∙ sym at in
    let on = goes_on key v step.0 ask step.2 (subst (λ (k : ℕ). AreOthers k step.0) pen step.3) pen in (
      ap (written key) step.1 ∙ on.0 ∙ ap (λ (p : Page). written key v ++ p.event ∷ []) is,
      ap (key_after key) step.1 ∙ on.1 ∙ ap (λ (p : Page). p.next) is,
    )

-- of two prefixes of one log, the events that an author wrote in the one are a prefix of those in
-- the other, if there are no more
pub shorter_begins : (mine theirs : ℕ) (xs ys log : List Page) → mine ≡ theirs → IsPrefix xs log → IsPrefix ys log → length (written mine xs) ≤ length (written theirs ys) → IsPrefix (written mine xs) (written theirs ys)
shorter_begins mine theirs xs ys log same one two less =
    prefix_shorter (written mine xs) (written theirs ys) (written mine log) (written_prefix mine xs log one) (subst (λ (k : ℕ). IsPrefix (written theirs ys) (written k log)) (sym same) (written_prefix theirs ys log two)) less

-- the events of another author are a prefix of the author's own, if its pen wrote nothing of a log
-- that has both
pub looked : (mine theirs : ℕ) (v other both log : List Page) → theirs ≡ mine → IsPrefix v both → IsPrefix other both → IsPrefix both log → AreOthers (key_after mine v) log
    → (written mine log ≡ written mine v) × (key_after mine log ≡ key_after mine v) × IsPrefix (written theirs other) (written mine v)
looked mine theirs v other both log same one two more all =
    let here = stays mine v log (prefix_trans v both log one more) all in
    let there : IsPrefix (written mine other) (written mine log) = written_prefix mine other log (prefix_trans other both log two more) in (
      here.0,
      here.1,
      subst (λ (z : ℕ × List Event). IsPrefix (written z.0 other) z.1) (λ i. (sym same i, here.0 i)) there,
    )
