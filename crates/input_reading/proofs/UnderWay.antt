-- A line of which some bytes are taken.
use Rattle.std.proofs.Common.{ℕ, ◌≡◌, ◌≢◌, ◌+◌, ◌++◌, List, [], ◌∷◌, Option, None, Some, Result, Ok, Err, IfOk, IfErr, IsErr, length, take, drop, sym, ap, subst, ◌∙◌, append_assoc}
use Rattle.std.proofs.lemmas.List.{nil_from_length}
use Rattle.std.proofs.lemmas.List.Elements.{All-append, All-nil}
use Rattle.std.proofs.lemmas.Result.{IfOk-weaker, MatchResult-from_both, MatchResult-from_err}
use Rattle.std.specs.Io.KnownBytes.{Consumes, IsAtEnd, Keeps, prepend_known}
use Rattle.std.proofs.KnownBytes.{Consumes-nil, Consumes-trans}
use Rattle.input_reading.specs.Shortened.{shortened}
use Rattle.input_reading.specs.Tails.{GathersUpTo, HasNoLineFeed, IsCutAtLineFeed, IsGathered, tail_of}
use Rattle.input_reading.specs.Taking.{Takes, TakesLine, TakesNext, TakesWhole, Loses, EndsAs, EndsLine}
use Rattle.input_reading.specs.declared.reader.Next.{Next}
use Rattle.input_reading.specs.declared.reader.Next.TheVariants.{Line, Cut, End}
use Rattle.input_reading.specs.declared.fault.ReadFault.{ReadFault}
use Rattle.input_reading.specs.declared.tail.Tail.{Tail}

-- the bytes that are taken have no line feed, and are gathered
pub record IsUnderWay (old : List ℕ) (before : Option (List ℕ)) (now : List ℕ) (left : Option (List ℕ)) (line : List ℕ) (tail : Tail) : Type 0 where
  pub raw : List ℕ
  pub one : HasNoLineFeed raw
  pub taken : Takes old before now left raw
  pub gathered : IsGathered raw line tail

-- the front of what is pending is taken
cut : (left : Option (List ℕ)) (now front others : List ℕ) → now ≡ front ++ others → Consumes (prepend_known now left) (prepend_known others left) front
cut None now front others e = tt
cut (Some xs) now front others e = ap (λ l. l ++ xs) e ∙ append_assoc front others xs

-- all that is pending is taken, and the window is filled
all : (left after : Option (List ℕ)) (now new : List ℕ) → Keeps left (prepend_known new after) → Consumes (prepend_known now left) (prepend_known new after) now
all None after now new kept = tt
all (Some xs) None now new kept = absurd kept
all (Some xs) (Some ys) now new kept = ap (λ l. now ++ l) (sym kept)

both_one : (xs ys : List ℕ) → HasNoLineFeed xs → HasNoLineFeed ys → HasNoLineFeed (xs ++ ys)
both_one xs ys one more = All-append (λ byte. byte ≢ 10) xs ys one more

-- nothing is taken yet
pub begun : (old : List ℕ) (before : Option (List ℕ)) (line : List ℕ) (tail : Tail) → line ≡ [] → tail ≡ tail_of [] → IsUnderWay old before old before line tail
begun old before line tail none empty = record {
  raw = [];
  one = All-nil (λ byte. byte ≢ 10);
  taken = Consumes-nil (prepend_known old before);
  gathered = record { front = none; behind = empty };
}

-- a call that fails loses what was taken
pub lost_in : (old : List ℕ) (before : Option (List ℕ)) (new : List ℕ) (after : Option (List ℕ)) (line : List ℕ) (r : Result Next ReadFault) → IsErr r
    → Loses old before new after → TakesLine old before new after line r
lost_in old before new after line r err lost = MatchResult-from_err r (TakesNext old before new after line) (λ _. Loses old before new after) err (λ _. lost)

lost_if : {P : Type 0} (r : Result Next ReadFault) → P → IfErr r (λ _. P)
lost_if (Ok _) p = tt
lost_if (Err _) p = p

module _ (old : List ℕ) (before : Option (List ℕ)) (now : List ℕ) (left : Option (List ℕ)) (line : List ℕ) (tail : Tail) (under_way : IsUnderWay old before now left line tail)
    (place : Option ℕ) (bytes : List ℕ) (longer : List ℕ) (further : Tail) (same : bytes ≡ now) (up_to : GathersUpTo place bytes line tail longer further) where
  here : (p : Option ℕ) → place ≡ p → GathersUpTo p now line tail longer further
  here p is = subst (λ xs. GathersUpTo p xs line tail longer further) same (subst (λ q. GathersUpTo q bytes line tail longer further) is up_to)

  module _ (n : ℕ) (others : List ℕ) (is : place ≡ Some n) (rest : others ≡ drop (n + 1) now) where
    taken_by : Takes old before others left ((under_way.raw ++ take n now) ++ 10 ∷ [])
    taken_by =
        let front = take n now in
        let cut_there = subst (IsCutAtLineFeed now front) (sym rest) (here (Some n) is).1 in
        subst (Takes old before others left) (sym (append_assoc under_way.raw front (10 ∷ [])))
        (Consumes-trans (prepend_known old before) (prepend_known now left) (prepend_known others left) under_way.raw (front ++ 10 ∷ []) under_way.taken
        (cut left now (front ++ 10 ∷ []) others (cut_there.whole ∙ sym (append_assoc front (10 ∷ []) others))))

    -- the line ends at a line feed
    pub whole : (ended : List ℕ) → ((raw : List ℕ) → IsGathered raw longer further → ended ≡ shortened raw) → TakesWhole old before others left ended
    whole ended finished = record {
      raw = under_way.raw ++ take n now;
      one = both_one under_way.raw (take n now) under_way.one (here (Some n) is).1.one;
      taken = taken_by;
      handed_on = finished (under_way.raw ++ take n now) ((here (Some n) is).2 under_way.raw under_way.gathered);
    }

    -- the line that ends at a line feed is lost
    pub whole_lost : (ended : List ℕ) (r : Result Next ReadFault) → IsErr r → TakesLine old before others left ended r
    whole_lost ended r err = lost_in old before others left ended r err ((under_way.raw ++ take n now) ++ 10 ∷ [], taken_by)

  module _ (new : List ℕ) (after : Option (List ℕ)) (is : place ≡ None) (kept : Keeps left (prepend_known new after)) where
    -- the line goes on
    pub more : IsUnderWay old before new after longer further
    more = record {
      raw = under_way.raw ++ now;
      one = both_one under_way.raw now under_way.one (here None is).0;
      taken = Consumes-trans (prepend_known old before) (prepend_known now left) (prepend_known new after) under_way.raw now under_way.taken (all left after now new kept);
      gathered = (here None is).1 under_way.raw under_way.gathered;
    }

    -- its bytes so far are lost
    pub more_lost : (ended : List ℕ) (r : Result Next ReadFault) → IsErr r → TakesLine old before new after ended r
    more_lost ended r err = lost_in old before new after ended r err (more.raw, more.taken)

    ends : (ended : List ℕ) (next : Next) → new ≡ [] → IsAtEnd after → EndsAs more.raw ended next → TakesNext old before new after ended next
    ends ended Line none at_end e = absurd e
    ends ended Cut none at_end e = record { raw = more.raw; some = e.0; one = more.one; taken = more.taken; handed_on = e.1; ended = (none, at_end) }
    ends ended End none at_end e = record { taken = subst (Takes old before new after) e.0 more.taken; empty = e.1; ended = (none, at_end) }

    -- the line ends with the input
    pub last : (ended : List ℕ) (r : Result Next ReadFault) → length new ≡ 0 → IsAtEnd after → IfOk r (EndsLine longer further ended) → TakesLine old before new after ended r
    last ended r none at_end ends_so =
        MatchResult-from_both r (TakesNext old before new after ended) (λ _. Loses old before new after)
        (IfOk-weaker r (EndsLine longer further ended) (TakesNext old before new after ended) (λ next e. ends ended next (nil_from_length new none) at_end (e more.raw more.gathered)) ends_so)
        (lost_if r (more.raw, more.taken))
