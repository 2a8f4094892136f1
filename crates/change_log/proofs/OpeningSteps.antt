-- The lines at the front, one after the other.
use Rattle.std.proofs.Common.{◌≡◌, ◌≢◌, ◌<◌, ◌≤◌, ℕ, suc, Bool, true, false, List, [], ◌∷◌, ◌++◌, if◌then◌else◌, length, nat_lt, take, drop, Option, refl, sym, ap, subst, ◌∙◌, append-nil, arith, inl, inr}
use Rattle.std.proofs.KnownBytes.{Consumes-nil, Consumes-trans}
use Rattle.std.proofs.lemmas.Bool.Decides.{leb_tells}
use Rattle.std.proofs.lemmas.List.{drop_all, take_all}
use Rattle.std.specs.Io.KnownBytes.{prepend_known}
use Rattle.input_reading.proofs.Short.{shortened_short}
use Rattle.input_reading.specs.Shortened.{mark_of, shortened}
use Rattle.input_reading.specs.Taking.{Takes, TakesLast, TakesNone, TakesWhole}
use Rattle.input_reading.specs.declared.line.TheConstants.{LONGEST}
use Rattle.recording.specs.Places.{is_front_word}
use Rattle.recording.specs.Reading.{cut, first_word}
use Rattle.recording.specs.declared.fault.LineFault.{LineFault}
use Rattle.change_log.specs.Openings.{IsLooked, OpensPreamble, ends_after, front_with}
use Rattle.change_log.specs.declared.opening.PreambleEnd.{PreambleEnd}
use Rattle.change_log.specs.declared.opening.PreambleEnd.TheVariants as front_end

-- ---- lines that are too long to be read whole

both : (b : Bool) → b ≡ true → b ≡ false → ⊥
both b t f = apart (sym t ∙ f)
  where
    apart : true ≡ false → ⊥
    apart e = cc

below : (n limit : ℕ) → nat_lt n limit ≡ true → n < limit
below n limit h = elim (leb_tells (suc n) limit) [ inl is ↦ is.1 | inr other ↦ absurd (both (nat_lt n limit) h other.0) ]

from : (n limit : ℕ) → nat_lt n limit ≡ false → limit ≤ n
from n limit h = elim (leb_tells (suc n) limit) [ inl is ↦ absurd (both (nat_lt n limit) is.0 h) | inr other ↦ omega (arith, other.1) ]

-- a line that has room is unchanged
pub no_mark : (limit : ℕ) (raw : List ℕ) → length raw < limit → take limit raw ++ mark_of (drop limit raw) ≡ raw
no_mark limit raw within = ap (λ rest. take limit raw ++ mark_of rest) (drop_all limit raw (omega arith)) ∙ append-nil (take limit raw) ∙ take_all limit raw (omega arith)

-- if a line that was returned is long, so are its bytes
at_least : (limit : ℕ) (raw : List ℕ) → limit ≤ length (take limit raw ++ mark_of (drop limit raw)) → limit ≤ length raw
at_least limit raw long = elim (leb_tells limit (length raw)) [
  | inl is ↦ is.1
  | inr other ↦ let same = ap length (no_mark limit raw other.1) in absurd (omega (arith, same, long, other.1))
]

-- ---- what ends the front

abbrev end_of : (of_front short : Bool) → PreambleEnd → PreambleEnd
end_of of_front short other = if of_front then (if short then front_end.Over else front_end.LongLine) else other

short_over : (of_front short : Bool) (other : PreambleEnd) → end_of of_front short other ≡ front_end.Over → other ≢ front_end.Over → short ≡ true
short_over true true other h apart = refl
short_over true false other h apart = absurd cc
short_over false short other h apart = absurd (apart h)

long_line : (of_front short : Bool) (other : PreambleEnd) → end_of of_front short other ≡ front_end.LongLine → other ≢ front_end.LongLine → short ≡ false
long_line true true other h apart = absurd cc
long_line true false other h apart = refl
long_line false short other h apart = absurd (apart h)

no_cut : (of_front short : Bool) → end_of of_front short front_end.Line ≡ front_end.Cut → ⊥
no_cut true true h = cc
no_cut true false h = cc
no_cut false short h = cc

no_line : (of_front short : Bool) → end_of of_front short front_end.Cut ≡ front_end.Line → ⊥
no_line true true h = cc
no_line true false h = cc
no_line false short h = cc

no_fault : (of_front short : Bool) (f : LineFault) → end_of of_front short front_end.Line ≡ front_end.AtFault f → ⊥
no_fault true true f h = cc
no_fault true false f h = cc
no_fault false short f h = cc

no_cut_fault : (of_front short : Bool) (f : LineFault) → end_of of_front short front_end.Cut ≡ front_end.AtFault f → ⊥
no_cut_fault true true f h = cc
no_cut_fault true false f h = cc
no_cut_fault false short f h = cc

abbrev of_front : List ℕ → Bool
of_front line = is_front_word (first_word (cut line))

abbrev short : List ℕ → Bool
short line = nat_lt (length line) LONGEST

-- a line of the front that is no longer came as it is
whole_raw : (raw line : List ℕ) (other : PreambleEnd) → line ≡ shortened raw → ends_after line other ≡ front_end.Over → other ≢ front_end.Over → line ≡ raw
whole_raw raw line other is over apart =
    let within : short line ≡ true = short_over (of_front line) (short line) other over apart in
    is ∙ shortened_short raw (subst (λ l. length l < LONGEST) is (below (length line) LONGEST within))

long_raw : (raw line : List ℕ) (other : PreambleEnd) → line ≡ shortened raw → ends_after line other ≡ front_end.LongLine → other ≢ front_end.LongLine → LONGEST ≤ length raw
long_raw raw line other is long apart =
    let beyond : short line ≡ false = long_line (of_front line) (short line) other long apart in
    at_least LONGEST raw (subst (λ l. LONGEST ≤ length l) is (from (length line) LONGEST beyond))

-- ---- the front

pub front_none : (held : List ℕ) (known : Option (List ℕ)) → Takes held known held known []
front_none held known = Consumes-nil (prepend_known held known)

module _ (front held kept next : List ℕ) (known left further : Option (List ℕ)) (read : Takes held known kept left front) where
  more : (bytes : List ℕ) → Takes kept left next further bytes → Takes held known next further (front ++ bytes)
  more bytes taken = Consumes-trans (prepend_known held known) (prepend_known kept left) (prepend_known next further) front bytes read taken

  -- nothing came any more
  pub front_over : (end : PreambleEnd) (line last : List ℕ) → end ≡ front_end.Over → TakesNone kept left next further line → OpensPreamble end front last held known next further
  front_over end line last is w = subst (λ e. OpensPreamble e front last held known next further) (sym is) (subst (Takes held known next further) (append-nil front) (more [] w.taken), w.ended)

  -- a line more
  module _ (line : List ℕ) (w : TakesWhole kept left next further line) where
    -- it is one of the front
    pub front_more : (end : PreambleEnd) (grown : List ℕ) → end ≡ ends_after line front_end.Line → end ≡ front_end.Over → grown ≡ front_with (ends_after line front_end.Line) front (line ++ 10 ∷ []) → Takes held known next further grown
    front_more end grown ends over is =
        let same : line ≡ w.raw = whole_raw w.raw line front_end.Line w.handed_on (sym ends ∙ over) (λ e. differ e) in
        let grew : grown ≡ front ++ (w.raw ++ 10 ∷ []) = is ∙ ap (λ e. front_with e front (line ++ 10 ∷ [])) (sym ends ∙ over) ∙ ap (λ l. front ++ (l ++ 10 ∷ [])) same in
        subst (Takes held known next further) (sym grew) (more (w.raw ++ 10 ∷ []) w.taken)
      where
        differ : front_end.Line ≡ front_end.Over → ⊥
        differ e = cc

    -- it ends the front
    ended : (end : PreambleEnd) (grown last : List ℕ) → end ≡ ends_after line front_end.Line → end ≢ front_end.Over → grown ≡ front_with end front (line ++ 10 ∷ []) → last ≡ line → OpensPreamble end grown last held known next further
    ended front_end.Over grown last ends other is same = absurd (other refl)
    ended front_end.Line grown last ends other is same =
        (kept, left, subst (Takes held known kept left) (sym is) read, subst (TakesWhole kept left next further) (sym same) w)
    ended front_end.Cut grown last ends other is same = absurd (no_cut (of_front line) (short line) (sym ends))
    ended front_end.LongLine grown last ends other is same = record {
      before = front;
      raw = w.raw;
      after = 10 ∷ [];
      feed = inl refl;
      joined = is ∙ ap (λ l. front ++ (l ++ 10 ∷ [])) w.handed_on;
      line = w.one;
      long = long_raw w.raw line front_end.Line w.handed_on (sym ends) (λ e. differ e);
      read = more (w.raw ++ 10 ∷ []) w.taken;
    }
      where
        differ : front_end.Line ≡ front_end.LongLine → ⊥
        differ e = cc
    ended (front_end.AtFault f) grown last ends other is same = absurd (no_fault (of_front line) (short line) f (sym ends))

    pub front_ended : (end : PreambleEnd) (grown last : List ℕ) → end ≡ ends_after line front_end.Line → end ≢ front_end.Over → grown ≡ front_with (ends_after line front_end.Line) front (line ++ 10 ∷ []) → last ≡ line
        → OpensPreamble end grown last held known next further
    front_ended end grown last ends other is same = ended end grown last ends other (is ∙ ap (λ e. front_with e front (line ++ 10 ∷ [])) (sym ends)) same

  -- the last line has no line feed
  module _ (line : List ℕ) (w : TakesLast kept left next further line) where
    last_of : (end : PreambleEnd) (grown last : List ℕ) → end ≡ ends_after line front_end.Cut → grown ≡ front_with end front (line ++ []) → last ≡ line → OpensPreamble end grown last held known next further
    last_of front_end.Over grown last ends is same =
        let whole : line ≡ w.raw = whole_raw w.raw line front_end.Cut w.handed_on (sym ends) (λ e. differ e) in
        let grew : grown ≡ front ++ w.raw = is ∙ ap (λ l. front ++ l) (append-nil line ∙ whole) in
        (subst (Takes held known next further) (sym grew) (more w.raw w.taken), w.ended)
      where
        differ : front_end.Cut ≡ front_end.Over → ⊥
        differ e = cc
    last_of front_end.Line grown last ends is same = absurd (no_line (of_front line) (short line) (sym ends))
    last_of front_end.Cut grown last ends is same = (kept, left, subst (Takes held known kept left) (sym is) read, subst (TakesLast kept left next further) (sym same) w)
    last_of front_end.LongLine grown last ends is same = record {
      before = front;
      raw = w.raw;
      after = [];
      feed = inr refl;
      joined = is ∙ ap (λ l. front ++ (l ++ [])) w.handed_on;
      line = w.one;
      long = long_raw w.raw line front_end.Cut w.handed_on (sym ends) (λ e. differ e);
      read = subst (Takes held known next further) (ap (λ l. front ++ l) (sym (append-nil w.raw))) (more w.raw w.taken);
    }
      where
        differ : front_end.Cut ≡ front_end.LongLine → ⊥
        differ e = cc
    last_of (front_end.AtFault f) grown last ends is same = absurd (no_cut_fault (of_front line) (short line) f (sym ends))

    pub front_cut : (end : PreambleEnd) (grown last : List ℕ) → end ≡ ends_after line front_end.Cut → grown ≡ front_with (ends_after line front_end.Cut) front (line ++ []) → last ≡ line → OpensPreamble end grown last held known next further
    front_cut end grown last ends is same = last_of end grown last ends (is ∙ ap (λ e. front_with e front (line ++ [])) (sym ends)) same

-- a fault of the front was found
pub front_looked : (front line held kept : List ℕ) (known left : Option (List ℕ)) (old new : PreambleEnd) → Takes held known kept left front → IsLooked front old new → old ≡ front_end.Over → new ≢ front_end.Over
    → OpensPreamble new front line held known kept left
front_looked front line held kept known left old new read (inl same) over other = absurd (other (same ∙ over))
front_looked front line held kept known left old new read (inr (f, is, has)) over other = subst (λ e. OpensPreamble e front line held known kept left) (sym is) (read, has)

pub looked_as : (front named : List ℕ) (old new : PreambleEnd) → front ≡ named → IsLooked front old new → IsLooked named old new
looked_as front named old new is h = subst (λ l. IsLooked l old new) is h

-- the front by another name
pub takes_as : (held kept : List ℕ) (known left : Option (List ℕ)) (front named : List ℕ) → front ≡ named → Takes held known kept left front → Takes held known kept left named
takes_as held kept known left front named is h = subst (Takes held known kept left) is h
