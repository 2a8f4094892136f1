-- The steps that add a word, look, and add a page keep the rule.
use Rattle.std.proofs.Common.{◌≡◌, ◌≢◌, ℕ, zero, suc, ◌<◌, ◌==◌, true, false, List, [], ◌∷◌, ◌++◌, length, slice_set, refl, ap, sym, subst, arith, inl, length-append, None}
use Rattle.std.specs.List.{AllByRecursion}
use Rattle.std.proofs.lemmas.List.{append-nil}
use prog.Atomic.{either}
use Rattle.logbook.specs.Pages.{Cell, cell, Nib, keeps, gives, adds, no_nib, may_write, step, Moves}
use Rattle.publication.specs.declared.history.Page.{Page}
use Rattle.publication.specs.HistoryRules.{IsHome, AreWordsHome, AreOthers, Makes, Looks, AddsPage}

abbrev pub shown : List Page → List Page
shown log = []

abbrev pub moved : List Page → List Page → ℕ → Type 0
moved xs ys n = Unit {0}

-- a word that is at home stays there
home_set : (cs : List Cell) (j k n : ℕ) → IsHome cs k → IsHome (slice_set cs j (n, true)) k
home_set [] j k n h = h
home_set (c ∷ cs) zero zero n h = refl
home_set (c ∷ cs) zero (suc k) n h = h
home_set (c ∷ cs) (suc j) zero n h = h
home_set (c ∷ cs) (suc j) (suc k) n h = home_set cs j k n h

home_more : (cs : List Cell) (c : Cell) (k : ℕ) → IsHome cs k → IsHome (cs ++ c ∷ []) k
home_more [] c k h = absurd (cc h)
home_more (x ∷ cs) c zero h = h
home_more (x ∷ cs) c (suc k) h = home_more cs c k h

-- the one that comes home is there
home_here : (cs : List Cell) (j n : ℕ) → j < length cs → IsHome (slice_set cs j (n, true)) j
home_here [] j n lt = absurd (omega (arith, lt))
home_here (c ∷ cs) zero n lt = refl
home_here (c ∷ cs) (suc j) n lt = home_here cs j n (omega (arith, lt))

long_set : (cs : List Cell) (i j : ℕ) (c : Cell) → j < length cs → j < length (slice_set cs i c)
long_set [] i j c lt = lt
long_set (x ∷ cs) zero j c lt = lt
long_set (x ∷ cs) (suc i) zero c lt = omega arith
long_set (x ∷ cs) (suc i) (suc j) c lt = omega (arith, long_set cs i j c (omega (arith, lt)))

all_weaker : (P Q : Page → Type 0) → ((p : Page) → P p → Q p) → (ps : List Page) → AllByRecursion P ps → AllByRecursion Q ps
all_weaker P Q so [] all = tt
all_weaker P Q so (p ∷ ps) all = (so p all.0, all_weaker P Q so ps all.1)

all_more : (P : Page → Type 0) (ps : List Page) (p : Page) → AllByRecursion P ps → P p → AllByRecursion P (ps ++ p ∷ [])
all_more P [] p all one = (one, tt)
all_more P (q ∷ ps) p all one = (all.0, all_more P ps p all.1 one)

kept_set : (cs : List Cell) (log : List Page) (j n : ℕ) → AreWordsHome cs log → AreWordsHome (slice_set cs j (n, true)) log
kept_set cs log j n kept = record {
  some = long_set cs j 0 (n, true) kept.some;
  head = home_set cs j 0 n kept.head;
  wrote = all_weaker (λ p. IsHome cs p.pen) (λ p. IsHome (slice_set cs j (n, true)) p.pen) (λ p h. home_set cs j p.pen n h) log kept.wrote;
}

kept_more : (cs : List Cell) (log : List Page) (c : Cell) → AreWordsHome cs log → AreWordsHome (cs ++ c ∷ []) log
kept_more cs log c kept = record {
  some = omega (arith, length-append cs (c ∷ []));
  head = home_more cs c 0 kept.head;
  wrote = all_weaker (λ p. IsHome cs p.pen) (λ p. IsHome (cs ++ c ∷ []) p.pen) (λ p h. home_more cs c p.pen h) log kept.wrote;
}

kept_page : (cs : List Cell) (log : List Page) (p : Page) → AreWordsHome cs log → IsHome cs p.pen → AreWordsHome cs (log ++ p ∷ [])
kept_page cs log p kept home = record {
  some = kept.some;
  head = kept.head;
  wrote = all_more (λ q. IsHome cs q.pen) log p kept.wrote home;
}

-- a new word is added, whatever the book is
pub makes_moves : (v : List Page) (ask : Page) → Moves AreWordsHome shown moved 0 (v, (no_nib, None)) (λ n. either (n == 0) 0 n) (Makes (step 0 0 0 ask) (v, (no_nib, None)))
makes_moves v ask cs log kept pre away =
    let n = either ((cell cs 0).0 == 0) 0 (cell cs 0).0 in
    let set = slice_set cs 0 (n, true) in (
      kept.some,
      kept.head,
      (
        adds,
        [],
        None,
        tt,
        subst (AreWordsHome (set ++ (0, false) ∷ [])) (sym (append-nil log)) (kept_more set log (0, false) (kept_set cs log 0 n kept)),
        inl (refl, refl),
        refl,
      ),
    )

apart : (cs : List Cell) (a b : ℕ) → IsHome cs a → (cell cs b).1 ≡ false → a ≡ b → ⊥
apart cs a b home away same = absurd (cc (home, away, ap (λ k. (cell cs k).1) same))

-- a pen whose word is away wrote nothing
unused : (cs : List Cell) (log : List Page) (key : ℕ) → AreWordsHome cs log → (cell cs key).1 ≡ false → AreOthers key log
unused cs log key kept away = all_weaker (λ p. IsHome cs p.pen) (λ p. p.pen ≢ key) (λ p h e. apart cs p.pen key h away e) log kept.wrote

pub looks_moves : (v : List Page) (nib : Nib) (ask : Page) → nib.right ≡ may_write
    → Moves AreWordsHome shown moved 0 (v, (nib, None)) (λ n. either (n == 0) 0 n) (Looks (step 0 0 0 ask) (v, (nib, None)))
looks_moves v nib ask may cs log kept pre away =
    let n = either ((cell cs 0).0 == 0) 0 (cell cs 0).0 in
    let P : List Page → Type 0 = λ l. AreOthers nib.key l in (
      kept.some,
      kept.head,
      (
        keeps,
        [],
        None,
        tt,
        subst (AreWordsHome (slice_set cs 0 (n, true))) (sym (append-nil log)) (kept_set cs log 0 n kept),
        inl (refl, refl),
        (subst P (sym (append-nil log)) (unused cs log nib.key kept (away may).1), refl),
      ),
    )

-- a pen writes a page where it had written none, and its word comes home
pub adds_moves : (v : List Page) (nib : Nib) (ask : Page) → nib.right ≡ may_write → ask.pen ≡ nib.key
    → Moves AreWordsHome shown moved 0 (v, (nib, None)) (λ n. either (n == 0) 0 n) (AddsPage (step 0 0 0 ask) (v, (nib, None)))
adds_moves v nib ask may mine cs log kept pre away =
    let gone = away may in
    let n = either ((cell cs 0).0 == 0) 0 (cell cs 0).0 in
    let set = slice_set cs 0 (n, true) in
    let here : IsHome (slice_set set nib.key (nib.value, true)) ask.pen = subst (IsHome (slice_set set nib.key (nib.value, true))) (sym mine) (home_here set nib.key nib.value (long_set cs 0 nib.key (n, true) gone.0)) in (
      kept.some,
      kept.head,
      (
        gives,
        ask ∷ [],
        None,
        may,
        kept_page (slice_set set nib.key (nib.value, true)) log ask (kept_set set log nib.key nib.value (kept_set cs log 0 n kept)) here,
        inl (refl, refl),
        (log, refl, pre, subst (λ (k : ℕ). AreOthers k log) (sym mine) (unused cs log nib.key kept gone.1)),
      ),
    )
