-- The LSAs of an update, one after the other, are the pieces that it says.
use Rattle.std.proofs.Common.{◌≡◌, ℕ, zero, suc, ◌+◌, ◌-◌, ◌<◌, ◌≤◌, ◌⊎◌, inl, inr, Bool, true, false, List, [], ◌∷◌, ◌++◌, length, map, take, drop, Result, Ok, Err, Some, refl, sym, ap, subst, ◌∙◌, append_assoc, arith}
use Rattle.std.specs.Prelude.{nat_le, ◌&&◌}
use Rattle.std.specs.List.{concat, AllByRecursion}
use Rattle.std.specs.Iterator.{MakesProgress, item_count}
use Rattle.std.specs.Borrow.{Bor}
use Rattle.std.proofs.lemmas.List.{length-append, length-take-le, length-drop, drop-append-le, drop-drop, take-append-drop, take_at, drop_at}
use Rattle.std.proofs.lemmas.Bool.{leb-true, le-leb, and_parts, and_from}
use Rattle.byteorder.specs.Endian.{big_number}
use Rattle.packets.specs.declared.fault.UpdateFault.{UpdateFault}
use Rattle.packets.specs.declared.fault.UpdateFault.TheVariants.{LsaLength}
use Rattle.packets.specs.Updates.{lsa_length, IsOneLsa, UpdatePiece, StartsWithLsa, IsUpdateWhole, IsUpdateCut, ArePieces, has_lsa, pieces_from, lent}

-- ---- an LSA in front

two_in_front : (front back : List ℕ) → 2 ≤ length front → big_number 2 (front ++ back) ≡ big_number 2 front
two_in_front [] back long = absurd (omega (arith, long))
two_in_front (a ∷ []) back long = absurd (omega (arith, long))
two_in_front (a ∷ b ∷ front) back long = refl

length_in_front : (lsa behind : List ℕ) → 20 ≤ length lsa → lsa_length (lsa ++ behind) ≡ lsa_length lsa
length_in_front lsa behind long =
    ap (big_number 2) (drop-append-le 18 lsa behind (omega (arith, long)))
    ∙ two_in_front (drop 18 lsa) behind (omega (arith, length-drop 18 lsa, long))

has_in_front : (lsa behind : List ℕ) → IsOneLsa lsa → has_lsa (lsa ++ behind) ≡ true
has_in_front lsa behind one =
    let size : lsa_length (lsa ++ behind) ≡ length lsa = length_in_front lsa behind one.header ∙ one.whole in
    let all : length (lsa ++ behind) ≡ length lsa + length behind = length-append lsa behind in
    let header : nat_le 20 (length (lsa ++ behind)) ≡ true = le-leb 20 (length (lsa ++ behind)) (omega (arith, all, one.header)) in
    let least : nat_le 20 (lsa_length (lsa ++ behind)) ≡ true = le-leb 20 (lsa_length (lsa ++ behind)) (omega (arith, size, one.header)) in
    let fits : nat_le (lsa_length (lsa ++ behind)) (length (lsa ++ behind)) ≡ true = le-leb (lsa_length (lsa ++ behind)) (length (lsa ++ behind)) (omega (arith, all, size)) in
    and_from _ _ header (and_from _ _ least fits)

starts : (bytes : List ℕ) → has_lsa bytes ≡ true → StartsWithLsa bytes
starts bytes has =
    let parts = and_parts (nat_le 20 (length bytes)) (nat_le 20 (lsa_length bytes) && nat_le (lsa_length bytes) (length bytes)) has in
    let sizes = and_parts (nat_le 20 (lsa_length bytes)) (nat_le (lsa_length bytes) (length bytes)) parts.1 in
    let least : 20 ≤ lsa_length bytes = leb-true 20 (lsa_length bytes) sizes.0 in
    let fits : lsa_length bytes ≤ length bytes = leb-true (lsa_length bytes) (length bytes) sizes.1 in
    let lsa : List ℕ = take (lsa_length bytes) bytes in
    let long : length lsa ≡ lsa_length bytes = length-take-le (lsa_length bytes) bytes fits in
    let whole : bytes ≡ lsa ++ drop (lsa_length bytes) bytes = sym (take-append-drop (lsa_length bytes) bytes) in
    record {
      lsa = lsa;
      behind = drop (lsa_length bytes) bytes;
      whole = whole;
      is_lsa = record {
        header = omega (arith, long, least);
        whole = sym (length_in_front lsa (drop (lsa_length bytes) bytes) (omega (arith, long, least))) ∙ ap lsa_length (sym whole) ∙ sym long;
      };
    }

starts_not : (bytes : List ℕ) (b : Bool) → has_lsa bytes ≡ b → (StartsWithLsa bytes → ⊥) → b ≡ false
starts_not bytes true has none = absurd (none (starts bytes has))
starts_not bytes false has none = refl

-- ---- a step

one_more : (n place : ℕ) (bytes : List ℕ) → has_lsa bytes ≡ true → pieces_from (suc n) place bytes ≡ Ok (take (lsa_length bytes) bytes) ∷ pieces_from n (place + lsa_length bytes) (drop (lsa_length bytes) bytes)
one_more n place bytes has = rw has refl

stuck : (n place : ℕ) (bytes : List ℕ) → has_lsa bytes ≡ false → pieces_from (suc n) place bytes ≡ Err (LsaLength place) ∷ []
stuck n place bytes none = rw none refl

-- where the test fails, none is there
none_starts : (bytes : List ℕ) → has_lsa bytes ≡ false → StartsWithLsa bytes → ⊥
none_starts bytes none front =
    let has : has_lsa bytes ≡ true = ap has_lsa front.whole ∙ has_in_front front.lsa front.behind front.is_lsa in
    absurd cc

one_in_front : (n place : ℕ) (lsa behind : List ℕ) → IsOneLsa lsa → pieces_from (suc n) place (lsa ++ behind) ≡ Ok lsa ∷ pieces_from n (place + length lsa) behind
one_in_front n place lsa behind one =
    let size : lsa_length (lsa ++ behind) ≡ length lsa = length_in_front lsa behind one.header ∙ one.whole in
    one_more n place (lsa ++ behind) (has_in_front lsa behind one)
    ∙ ap (λ (k : ℕ). Ok (take k (lsa ++ behind)) ∷ pieces_from n (place + k) (drop k (lsa ++ behind))) size
    ∙ ap (λ (l : List ℕ). Ok l ∷ pieces_from n (place + length lsa) (drop (length lsa) (lsa ++ behind))) (take_at lsa behind (length lsa) refl)
    ∙ ap (λ (b : List ℕ). Ok lsa ∷ pieces_from n (place + length lsa) b) (drop_at lsa behind (length lsa) refl)

-- ---- they are the pieces

-- the end is the same where an LSA more is at the start, and where it is taken away
abbrev IsEnd : (found count place : ℕ) → List ℕ → List UpdatePiece → Type 0
IsEnd found count place rest end = IsUpdateWhole found count end ⊎ IsUpdateCut found count place rest end

end_more : (found count place size more : ℕ) (rest : List ℕ) (end : List UpdatePiece) → IsEnd found count (place + size + more) rest end → IsEnd (suc found) (suc count) (place + (size + more)) rest end
end_more found count place size more rest end (inl whole) = inl (record { all = omega (arith, whole.all); nothing = whole.nothing })
end_more found count place size more rest end (inr cut) =
    let same : place + size + more ≡ place + (size + more) = omega arith in
    inr (record { fewer = omega (arith, cut.fewer); none = cut.none; fault = cut.fault ∙ ap (λ (n : ℕ). Err (LsaLength n) ∷ []) same })

end_less : (found count place size more : ℕ) (rest : List ℕ) (end : List UpdatePiece) → IsEnd (suc found) (suc count) (place + (size + more)) rest end → IsEnd found count (place + size + more) rest end
end_less found count place size more rest end (inl whole) = inl (record { all = omega (arith, whole.all); nothing = whole.nothing })
end_less found count place size more rest end (inr cut) =
    let same : place + (size + more) ≡ place + size + more = omega arith in
    inr (record { fewer = omega (arith, cut.fewer); none = cut.none; fault = cut.fault ∙ ap (λ (n : ℕ). Err (LsaLength n) ∷ []) same })

with_lsa : (n place : ℕ) (bytes : List ℕ) (front : StartsWithLsa bytes) → ArePieces n (place + length front.lsa) front.behind (pieces_from n (place + length front.lsa) front.behind) → ArePieces (suc n) place bytes (pieces_from (suc n) place bytes)
with_lsa n place bytes front others = record {
  lsas = front.lsa ∷ others.lsas;
  rest = others.rest;
  end = others.end;
  whole = front.whole ∙ ap (λ (b : List ℕ). front.lsa ++ b) others.whole ∙ sym (append_assoc front.lsa (concat others.lsas) others.rest);
  each = (front.is_lsa, others.each);
  all = ap (pieces_from (suc n) place) front.whole ∙ one_in_front n place front.lsa front.behind front.is_lsa ∙ ap (λ (p : List UpdatePiece). Ok front.lsa ∷ p) others.all;
  ends = subst (λ (k : ℕ). IsEnd (suc (length others.lsas)) (suc n) (place + k) others.rest others.end) (sym (length-append front.lsa (concat others.lsas))) (end_more (length others.lsas) n place (length front.lsa) (length (concat others.lsas)) others.rest others.end others.ends);
}

without_lsa : (n place : ℕ) (bytes : List ℕ) → has_lsa bytes ≡ false → ArePieces (suc n) place bytes (pieces_from (suc n) place bytes)
without_lsa n place bytes none = record {
  lsas = [];
  rest = bytes;
  end = Err (LsaLength place) ∷ [];
  whole = refl;
  each = tt;
  all = stuck n place bytes none;
  ends = inr (record { fewer = omega arith; none = none_starts bytes none; fault = ap (λ (k : ℕ). Err (LsaLength k) ∷ []) (omega arith) });
}

by_front : (n place : ℕ) (bytes : List ℕ) (b : Bool) → has_lsa bytes ≡ b → ((front : StartsWithLsa bytes) → ArePieces n (place + length front.lsa) front.behind (pieces_from n (place + length front.lsa) front.behind)) → ArePieces (suc n) place bytes (pieces_from (suc n) place bytes)
by_front n place bytes true has others = let front = starts bytes has in with_lsa n place bytes front (others front)
by_front n place bytes false has others = without_lsa n place bytes has

pub are_pieces : (count place : ℕ) (bytes : List ℕ) → ArePieces count place bytes (pieces_from count place bytes)
are_pieces zero place bytes = record { lsas = []; rest = bytes; end = []; whole = refl; each = tt; all = refl; ends = inl (record { all = refl; nothing = refl }) }
are_pieces (suc n) place bytes = by_front n place bytes (has_lsa bytes) refl (λ front. are_pieces n (place + length front.lsa) front.behind)

-- ---- and no others are

only_with : (lsas : List (List ℕ)) (rest : List ℕ) (end : List UpdatePiece) (count place : ℕ) (bytes : List ℕ) (pieces : List UpdatePiece) → bytes ≡ concat lsas ++ rest → AllByRecursion IsOneLsa lsas → pieces ≡ map Ok lsas ++ end
    → IsEnd (length lsas) count (place + length (concat lsas)) rest end → pieces ≡ pieces_from count place bytes
only_with [] rest end zero place bytes pieces whole each all (inl e) = all ∙ e.nothing
only_with [] rest end zero place bytes pieces whole each all (inr e) = absurd (omega (arith, e.fewer))
only_with [] rest end (suc n) place bytes pieces whole each all (inl e) = absurd (omega (arith, e.all))
only_with [] rest end (suc n) place bytes pieces whole each all (inr e) =
    let none : has_lsa bytes ≡ false = starts_not bytes (has_lsa bytes) refl (λ front. e.none (subst StartsWithLsa whole front)) in
    let here : place + 0 ≡ place = omega arith in
    all ∙ e.fault ∙ ap (λ (k : ℕ). Err (LsaLength k) ∷ []) here ∙ sym (stuck n place bytes none)
only_with (lsa ∷ lsas) rest end zero place bytes pieces whole each all (inl e) = absurd (omega (arith, e.all))
only_with (lsa ∷ lsas) rest end zero place bytes pieces whole each all (inr e) = absurd (omega (arith, e.fewer))
only_with (lsa ∷ lsas) rest end (suc n) place bytes pieces whole each all ends =
    let behind : List ℕ = concat lsas ++ rest in
    let parts : bytes ≡ lsa ++ behind = whole ∙ append_assoc lsa (concat lsas) rest in
    let others = only_with lsas rest end n (place + length lsa) behind (map Ok lsas ++ end) refl each.1 refl (end_less (length lsas) n place (length lsa) (length (concat lsas)) rest end (subst (λ (k : ℕ). IsEnd (suc (length lsas)) (suc n) (place + k) rest end) (length-append lsa (concat lsas)) ends)) in
    all ∙ ap (λ (p : List UpdatePiece). Ok lsa ∷ p) others ∙ sym (ap (pieces_from (suc n) place) parts ∙ one_in_front n place lsa behind each.0)

pub only_pieces : (count place : ℕ) (bytes : List ℕ) (pieces : List UpdatePiece) → ArePieces count place bytes pieces → pieces ≡ pieces_from count place bytes
only_pieces count place bytes pieces p =
    only_with p.lsas p.rest p.end count place bytes pieces p.whole p.each p.all p.ends

-- ---- what a call of `next` takes

pub takes_lsa : (left place size : ℕ) (body rest : List ℕ) → 0 < left → rest ≡ drop place body → has_lsa rest ≡ true → size ≡ lsa_length rest → pieces_from left place (drop place body) ≡ Ok (take size rest) ∷ pieces_from (left - 1) (place + size) (drop (place + size) body)
takes_lsa zero place size body rest some at has is = absurd (omega (arith, some))
takes_lsa (suc n) place size body rest some at has is =
    let less : n ≡ suc n - 1 = omega arith in
    let behind : drop size rest ≡ drop (place + size) body = ap (drop size) at ∙ drop-drop size place body in
    ap (pieces_from (suc n) place) (sym at) ∙ one_more n place rest has
    ∙ ap (λ (k : ℕ). Ok (take k rest) ∷ pieces_from n (place + k) (drop k rest)) (sym is)
    ∙ ap (λ (b : List ℕ). Ok (take size rest) ∷ pieces_from n (place + size) b) behind
    ∙ ap (λ (m : ℕ). Ok (take size rest) ∷ pieces_from m (place + size) (drop (place + size) body)) less

pub takes_fault : (left place : ℕ) (body rest : List ℕ) → 0 < left → rest ≡ drop place body → has_lsa rest ≡ false → pieces_from left place (drop place body) ≡ Err (LsaLength place) ∷ []
takes_fault zero place body rest some at none = absurd (omega (arith, some))
takes_fault (suc n) place body rest some at none = ap (pieces_from (suc n) place) (sym at) ∙ stuck n place rest none

-- to take the first of what is left is progress
pub first_goes : (first : Result (Bor (List ℕ)) UpdateFault) (before after : List UpdatePiece) → before ≡ lent first ∷ after → MakesProgress (λ _. Unit {0}) (item_count (λ s. s)) before (Some first) after
first_goes first before after e = record { on = λ _. (tt, tt, omega (arith, ap length e)); keeps = tt; rests = λ _. tt }
