use Rattle.std.proofs.Common.{ℕ, drop, sym, ap, subst, ◌∙◌}
use Rattle.packets.specs.Updates.{ArePiecesOf, pieces_from, count_field}
use Rattle.packets.proofs.Pieces.{are_pieces, only_pieces}
use Rattle.packets.proofs.update.update_lsas.Goals as goal

pub returns-clause-pieces : goal.returns-clause-pieces
returns-clause-pieces c =
    let body = c.args.body.now in
    subst (λ (n : ℕ). ArePiecesOf body (pieces_from n 4 (drop 4 body))) (sym c.read_u32.ensures) (are_pieces (count_field body) 4 (drop 4 body))

pub returns-clause-only : goal.returns-clause-only
returns-clause-only c = λ others are.
    let body = c.args.body.now in
    only_pieces (count_field body) 4 (drop 4 body) others are ∙ ap (λ (n : ℕ). pieces_from n 4 (drop 4 body)) (sym c.read_u32.ensures)
