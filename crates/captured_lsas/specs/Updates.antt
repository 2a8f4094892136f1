-- The results of the LSAs of a Link State Update, one after the other.
use Rattle.std.specs.Prelude.{ℕ, ◌≡◌, nat_lt, if◌then◌else◌, List, [], ◌∷◌, ◌++◌, length, Ok, Err}
use Rattle.packets.specs.Updates.{UpdatePiece, pieces_of}
use Rattle.packets.specs.declared.fault.UpdateFault.TheVariants.{Count}
use Rattle.packets.specs.declared.kind.PacketKind.{PacketKind}
use Rattle.packets.specs.declared.kind.PacketKind.TheVariants.{Hello, DatabaseDescription, LinkStateRequest, LinkStateUpdate, LinkStateAcknowledgment}
use Rattle.captured_lsas.specs.declared.recorded.Recorded.{Recorded}
use Rattle.captured_lsas.specs.declared.recorded.Recorded.TheVariants.{Cut}
use Rattle.captured_lsas.specs.Progress.{CaptureProgress}
use Rattle.captured_lsas.specs.Recording.{with_lsa, IsRecorded}

-- the LSAs in the body, and the fault at the place of one
abbrev pub pieces_in : List ℕ → List UpdatePiece
pieces_in body = if nat_lt (length body) 4 then Err Count ∷ [] else pieces_of body

-- only a Link State Update has any
abbrev pub pieces_for : PacketKind → List ℕ → List UpdatePiece
pieces_for Hello body = []
pieces_for DatabaseDescription body = []
pieces_for LinkStateRequest body = []
pieces_for LinkStateUpdate body = pieces_in body
pieces_for LinkStateAcknowledgment body = []

-- ---- the progress then

abbrev pub with_piece : CaptureProgress → ℕ → UpdatePiece → CaptureProgress
with_piece p area (Ok lsa) = with_lsa p area lsa
with_piece p area (Err fault) = p

unfoldable pub with_pieces : CaptureProgress → ℕ → List UpdatePiece → CaptureProgress
with_pieces p area [] = p
with_pieces p area (piece ∷ pieces) = with_pieces (with_piece p area piece) area pieces

-- some of the pieces were taken, and no more
pub record StopsInUpdate (old new : CaptureProgress) (area : ℕ) (pieces : List UpdatePiece) : Type 0 where
  pub taken : List UpdatePiece
  pub left : List UpdatePiece
  pub whole : pieces ≡ taken ++ left
  pub progress : new ≡ with_pieces old area taken

-- ---- what is recorded

abbrev pub IsPieceRecorded : CaptureProgress → ℕ → UpdatePiece → Recorded → Type 0
IsPieceRecorded p area (Ok lsa) recorded = IsRecorded p area lsa recorded
IsPieceRecorded p area (Err fault) recorded = recorded ≡ Cut fault

-- the result for each piece, after those before it
unfoldable pub AreRecorded : CaptureProgress → ℕ → List UpdatePiece → List Recorded → Type 0
AreRecorded p area [] [] = Unit {0}
AreRecorded p area [] (one ∷ more) = ⊥
AreRecorded p area (piece ∷ pieces) [] = ⊥
AreRecorded p area (piece ∷ pieces) (one ∷ more) = IsPieceRecorded p area piece one × AreRecorded (with_piece p area piece) area pieces more
