use Rattle.std.proofs.Common.{ℕ, refl, sym, subst, ap, ◌∙◌}
use Rattle.std.specs.Prelude.{is_some}
use Rattle.route_table.specs.Tables.{TableValue}
use Rattle.event_core.specs.Following.{AreChanges}
use Rattle.event_core.specs.contracts.routes.Routes.{the_view}
use Rattle.event_core.proofs.Settled.{HasFollowed, still_routes, still_apart, followed, stayed, with_serial}
use Rattle.event_core.proofs.routes.Routes.settle.Goals as goal
use Rattle.event_core.proofs.routes.Routes.settle.Goals.{then-changed+in_ok-follow, else-changed}

pub follow-requires-clause-before : goal.follow-requires-clause-before
follow-requires-clause-before c =
    let before = c.requires.before in
    (before.0, still_routes before.0 c.args.self.now c.forget.new.self c.forget.ensures before.2, before.3, before.5)

all : (c : goal.Joined-drop) → HasFollowed c.args.state.now c.args.named.keys.items c.args.named.interfaces.items (is_some c.args.named.range) c.args.changed c.args.self.now c.if-changed.self
all c =
    let before = c.requires.before in
    let t = c.args.state.now in
    let keys = c.args.named.keys.items in
    let ids = c.args.named.interfaces.items in
    let ranged = is_some c.args.named.range in
    let changed = c.args.changed in
    let old = c.args.self.now in
    let mid = c.forget.new.self in
    elim c.if-changed.branch [
      | then-changed+in_ok-follow w ↦
          subst (HasFollowed t keys ids ranged changed old) (sym w.self-is) (followed t keys ids ranged changed old mid c.forget.ensures w.if-changed.true w.follow.new.self w.in_ok-follow.ensures.calculation w.in_ok-follow.ensures.items w.in_ok-follow.ensures.summaries w.in_ok-follow.ensures.exact w.in_ok-follow.ensures.bounded)
      | else-changed w ↦
          subst (HasFollowed t keys ids ranged changed old) (sym w.self-is) (stayed t keys ids ranged changed old mid c.forget.ensures w.if-changed.false (c.config.ensures.fit (still_apart before.0 t keys ids ranged before.1 before.3)) before.0 (record { fit = before.1; differ = before.3; alike = before.4 }) before.2)
    ]

-- the same of what self is made of
inside : (c : goal.Joined-drop) → HasFollowed c.args.state.now c.args.named.keys.items c.args.named.interfaces.items (is_some c.args.named.range) c.args.changed c.args.self.now (the_view c.self.inside)
inside c = subst (HasFollowed c.args.state.now c.args.named.keys.items c.args.named.interfaces.items (is_some c.args.named.range) c.args.changed c.args.self.now) (sym c.self.view_is) (all c)

pub returns-clause-right : goal.returns-clause-right
returns-clause-right c =
    let h = inside c in
    with_serial c.args.state.now (the_view c.self.inside) c.set_serial.new.self h.calculation h.items h.summaries
    (c.set_serial.ensures ∙ ap (λ (n : ℕ). let v : TableValue = record c.self.inside.table { serial = n } in v) c.serial.ensures.value)

pub returns-clause-fit : goal.returns-clause-fit
returns-clause-fit c =
    let before = c.requires.before in
    c.config.ensures.fit (still_apart before.0 c.args.state.now c.args.named.keys.items c.args.named.interfaces.items (is_some c.args.named.range) before.1 before.3)

pub returns-clause-exact : goal.returns-clause-exact
returns-clause-exact c = record {
  networks = subst (λ (v : TableValue). AreChanges c.args.self.now.table.items v.items c.self.inside.changes.items) (sym c.set_serial.ensures) (inside c).exact.networks;
  due = (inside c).exact.due;
}

pub returns-clause-bounded : goal.returns-clause-bounded
returns-clause-bounded c = λ before fit are differ alike. (inside c).bounded before (record { fit = fit; differ = differ; alike = alike }) are

pub returns-clause-still : goal.returns-clause-still
returns-clause-still c = λ same.
    let still = (inside c).still same in
    record { settled = refl; work = still.0; changes = still.1; due_changes = still.2 }
