-- The pieces of an update, one after the other.
use Rattle.std.proofs.Common.{◌≡◌, ◌∙◌, ℕ, List, [], ◌∷◌, ◌++◌, refl, ap, sym, subst, length, ◌<◌, true, Result, Ok, Err, OnErr, arith}
use Rattle.std.specs.Prelude.{nat_lt}
use Rattle.std.proofs.lemmas.Bool.Decides.{nat_tests}
use Rattle.std.proofs.lemmas.List.{append_assoc, append-nil}
use Rattle.packets.specs.Updates.{UpdatePiece}
use Rattle.packets.specs.declared.fault.UpdateFault.{UpdateFault}
use Rattle.packets.specs.declared.fault.UpdateFault.TheVariants.{Count}
use Rattle.packets.specs.declared.kind.PacketKind.{PacketKind}
use Rattle.packets.specs.declared.kind.PacketKind.TheVariants.{Hello, DatabaseDescription, LinkStateRequest, LinkStateUpdate, LinkStateAcknowledgment}
use Rattle.captured_lsas.specs.declared.recorded.Recorded.{Recorded}
use Rattle.captured_lsas.specs.declared.recorded.Recorded.TheVariants.{Cut}
use Rattle.captured_lsas.specs.Progress.{CaptureProgress}
use Rattle.captured_lsas.specs.Updates.{pieces_in, pieces_for, with_piece, with_pieces, StopsInUpdate, IsPieceRecorded, AreRecorded}

-- one more piece is taken
with_one_more : (p : CaptureProgress) (area : ℕ) (front : List UpdatePiece) (piece : UpdatePiece) → with_pieces p area (front ++ piece ∷ []) ≡ with_piece (with_pieces p area front) area piece
unfolding with_pieces
with_one_more p area [] piece = refl
with_one_more p area (x ∷ xs) piece = with_one_more (with_piece p area x) area xs piece

recorded_one_more : (p : CaptureProgress) (area : ℕ) (front : List UpdatePiece) (all : List Recorded) (piece : UpdatePiece) (one : Recorded)
    → AreRecorded p area front all → IsPieceRecorded (with_pieces p area front) area piece one → AreRecorded p area (front ++ piece ∷ []) (all ++ one ∷ [])
unfolding with_pieces AreRecorded
recorded_one_more p area [] [] piece one are is = (is, tt {0})
recorded_one_more p area [] (r ∷ rs) piece one are is = absurd are
recorded_one_more p area (x ∷ xs) [] piece one are is = absurd are
recorded_one_more p area (x ∷ xs) (r ∷ rs) piece one are is = (are.0, recorded_one_more (with_piece p area x) area xs rs piece one are.1 is)

-- some pieces are taken, and others are left
pub record AreTaken (old now : CaptureProgress) (area : ℕ) (all left : List UpdatePiece) (recorded : List Recorded) : Type 0 where
  pub front : List UpdatePiece
  pub whole : all ≡ front ++ left
  pub progress : now ≡ with_pieces old area front
  pub each : AreRecorded old area front recorded

pub none_yet : (p : CaptureProgress) (area : ℕ) (all : List UpdatePiece) (recorded : List Recorded) → recorded ≡ [] → AreTaken p p area all all recorded
unfolding with_pieces AreRecorded
none_yet p area all recorded none = subst (AreTaken p p area all all) (sym none) (record { front = []; whole = refl; progress = refl; each = tt {0} })

module _ (old now : CaptureProgress) (area : ℕ) (all left : List UpdatePiece) (recorded : List Recorded) (taken : AreTaken old now area all left recorded) where
  pub one_more : (new : CaptureProgress) (piece : UpdatePiece) (rest : List UpdatePiece) (one : Recorded) (more : List Recorded) → left ≡ piece ∷ rest → new ≡ with_piece now area piece → IsPieceRecorded now area piece one → more ≡ recorded ++ one ∷ []
      → AreTaken old new area all rest more
  one_more new piece rest one more next is one_is pushed = record {
    front = taken.front ++ piece ∷ [];
    whole = taken.whole ∙ ap (λ (ps : List UpdatePiece). taken.front ++ ps) next ∙ sym (append_assoc taken.front (piece ∷ []) rest);
    progress = is ∙ ap (λ (p : CaptureProgress). with_piece p area piece) taken.progress ∙ sym (with_one_more old area taken.front piece);
    each = subst (AreRecorded old area (taken.front ++ piece ∷ [])) (sym pushed)
        (recorded_one_more old area taken.front recorded piece one taken.each (subst (λ (p : CaptureProgress). IsPieceRecorded p area piece one) taken.progress one_is));
  }

  -- none is left
  whole_front : left ≡ [] → taken.front ≡ all
  whole_front none = sym (taken.whole ∙ ap (λ (ps : List UpdatePiece). taken.front ++ ps) none ∙ append-nil taken.front)

  pub all_recorded : left ≡ [] → AreRecorded old area all recorded
  all_recorded none = subst (λ (ps : List UpdatePiece). AreRecorded old area ps recorded) (whole_front none) taken.each

  pub all_noted : left ≡ [] → now ≡ with_pieces old area all
  all_noted none = taken.progress ∙ ap (with_pieces old area) (whole_front none)

  pub stops : (new : CaptureProgress) → new ≡ now → StopsInUpdate old new area all
  stops new same = record { taken = taken.front; left = left; whole = taken.whole; progress = same ∙ taken.progress }

pub on_err : {T E : Type 0} (r : Result T E) (P : Type 0) → P → OnErr r P
on_err (Ok x) P p = tt
on_err (Err e) P p = p

-- ---- where there are none

no_pieces : (kind : PacketKind) (body : List ℕ) → (kind ≡ LinkStateUpdate → ⊥) → pieces_for kind body ≡ []
no_pieces Hello body not_update = refl
no_pieces DatabaseDescription body not_update = refl
no_pieces LinkStateRequest body not_update = refl
no_pieces LinkStateUpdate body not_update = absurd (not_update refl)
no_pieces LinkStateAcknowledgment body not_update = refl

none_recorded : (p : CaptureProgress) (area : ℕ) (pieces : List UpdatePiece) (recorded : List Recorded) → pieces ≡ [] → recorded ≡ [] → AreRecorded p area pieces recorded
unfolding AreRecorded
none_recorded p area [] [] none empty = tt {0}
none_recorded p area [] (r ∷ rs) none empty = absurd cc
none_recorded p area (x ∷ xs) recorded none empty = absurd cc

none_noted : (p : CaptureProgress) (area : ℕ) (pieces : List UpdatePiece) → pieces ≡ [] → p ≡ with_pieces p area pieces
unfolding with_pieces
none_noted p area [] none = refl
none_noted p area (x ∷ xs) none = absurd cc

pub other_recorded : (p : CaptureProgress) (area : ℕ) (kind : PacketKind) (body : List ℕ) (recorded : List Recorded) → (kind ≡ LinkStateUpdate → ⊥) → recorded ≡ [] → AreRecorded p area (pieces_for kind body) recorded
other_recorded p area kind body recorded not_update empty = none_recorded p area (pieces_for kind body) recorded (no_pieces kind body not_update) empty

pub other_noted : (p : CaptureProgress) (area : ℕ) (kind : PacketKind) (body : List ℕ) → (kind ≡ LinkStateUpdate → ⊥) → p ≡ with_pieces p area (pieces_for kind body)
other_noted p area kind body not_update = none_noted p area (pieces_for kind body) (no_pieces kind body not_update)

-- ---- without even their number

pieces_cut : (body : List ℕ) → length body < 4 → pieces_in body ≡ Err Count ∷ []
pieces_cut body short = let is : nat_lt (length body) 4 ≡ true = grind (arith, nat_tests) in rw is refl

count_recorded : (p : CaptureProgress) (area : ℕ) (pieces : List UpdatePiece) (fault : UpdateFault) (recorded : List Recorded) → pieces ≡ Err Count ∷ [] → fault ≡ Count → recorded ≡ Cut fault ∷ [] → AreRecorded p area pieces recorded
unfolding AreRecorded
count_recorded p area pieces fault recorded is count one =
    subst (λ (ps : List UpdatePiece). AreRecorded p area ps recorded) (sym is) (subst (AreRecorded p area (Err Count ∷ [])) (sym one) (ap (λ (f : UpdateFault). Cut f) count, tt {0}))

count_noted : (p : CaptureProgress) (area : ℕ) (pieces : List UpdatePiece) → pieces ≡ Err Count ∷ [] → p ≡ with_pieces p area pieces
unfolding with_pieces
count_noted p area pieces is = subst (λ (ps : List UpdatePiece). p ≡ with_pieces p area ps) (sym is) refl

pub cut_recorded : (p : CaptureProgress) (area : ℕ) (body : List ℕ) (fault : UpdateFault) (recorded : List Recorded) → (fault ≡ Count) × (length body < 4) → recorded ≡ Cut fault ∷ [] → AreRecorded p area (pieces_in body) recorded
cut_recorded p area body fault recorded is one = count_recorded p area (pieces_in body) fault recorded (pieces_cut body is.1) is.0 one

pub cut_noted : (p : CaptureProgress) (area : ℕ) (body : List ℕ) → length body < 4 → p ≡ with_pieces p area (pieces_in body)
cut_noted p area body short = count_noted p area (pieces_in body) (pieces_cut body short)

-- nothing is taken yet
pub not_begun : (p : CaptureProgress) (area : ℕ) (pieces : List UpdatePiece) → StopsInUpdate p p area pieces
unfolding with_pieces
not_begun p area pieces = record { taken = []; left = pieces; whole = refl; progress = refl }
