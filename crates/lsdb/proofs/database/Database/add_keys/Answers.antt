use Rattle.std.proofs.Common.{sym, ap, ◌∙◌, arith}
use Rattle.std.specs.Prelude.{slice_get, vec_len, vec_capacity}
use Rattle.std.specs.Option.{option_copied}
use Rattle.lsdb.proofs.Finding.{found_more, one_found, none_found}
use Rattle.lsdb.proofs.database.Database.add_keys.Goals as goal
use Rattle.lsdb.proofs.database.Database.add_keys.Goals.{in-Some, in_default}

pub loop-row-preserved : goal.loop-row-preserved
loop-row-preserved c =
    let before = c.loop-row.keys.items in
    record {
      so_far = found_more (slice_get c.args.self.now.order) c.args.rows.now c.loop-row.row-index 0 c.args.keys.now.items before c.match-key_at.keys.items (omega arith) c.loop-row.invariant.so_far
          (elim c.match-key_at.branch [
            | in-Some w ↦ ap (λ v. v.items) w.keys-is ∙ w.push_in_room.ensures.items ∙ one_found _ w.in-Some.key.now before (sym c.key_at.ensures ∙ ap option_copied w.in-Some.is)
            | in_default w ↦ ap (λ v. v.items) w.keys-is ∙ none_found _ before (sym c.key_at.ensures ∙ ap option_copied w.in_default.is)
          ]);
      room = elim c.match-key_at.branch [
        | in-Some w ↦ omega (arith, c.loop-row.invariant.room, ap vec_len w.keys-is, ap vec_capacity w.keys-is, w.push_in_room.ensures.len, w.push_in_room.ensures.capacity)
        | in_default w ↦ omega (arith, c.loop-row.invariant.room, ap vec_len w.keys-is, ap vec_capacity w.keys-is)
      ];
    }
