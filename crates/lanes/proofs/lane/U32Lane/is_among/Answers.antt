use Rattle.std.proofs.Common.{eqb, take, arith, w32, length, ◌≡◌}
use Rattle.std.proofs.lemmas.Simd.{bitmask_splat, length-chunk}
use Rattle.lanes.proofs.Vectors.{any_by_mask}
use Rattle.lanes.proofs.lane.U32Lane.is_among.Goals as goal

pub returns : goal.returns
returns c =
    let lanes = c.args.lanes.now in
    let long : length (take 32 lanes) ≡ 32 = length-chunk 0 32 lanes (omega arith) in
    any_by_mask (λ x. eqb x c.args.value) _ lanes c.requires (bitmask_splat w32 eqb (take 32 lanes) 32 c.args.value long (omega arith))
