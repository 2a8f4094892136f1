use Rattle.std.proofs.Common.{◌≡◌, ◌≤◌, ◌-◌, ◌++◌, ℕ, false, List, Option, Result, OnErr, Ok, Err, ap, sym, ◌∙◌, length, take, replicate, arith}
use Rattle.packets.specs.Kept.{Kept, cells, grown}
use Rattle.packets.proofs.Cells.{seen_as, longer, all_grown, none_grown}
use Rattle.packets.proofs.partial.Partial.grow.Goals as goal

on_err : {T E : Type 0} (r : Result T E) {P : Type 0} → P → OnErr r P
on_err (Ok x) p = tt
on_err (Err e) p = p

pub returns-else-places-size-clause-grown : goal.returns-else-places-size-clause-grown
returns-else-places-size-clause-grown c =
    let v = c.self.inside in
    let enough : length v.came.items ≤ length v.bytes.items = omega (arith, v.came.ok.0, v.bytes.ok.0, c.self.invariant.0) in
    let small : c.args.size ≤ length v.came.items = omega (arith, v.came.ok.0, c.len-places.ensures) in
    sym c.self.view_is
    ∙ ap (λ (b : List (Option ℕ)). record { key = v.key; has_end = v.has_end; bytes = b }) (none_grown c.args.size v.came.items v.bytes.items small enough)
    ∙ ap (λ (k : Kept). record k { bytes = grown c.args.size k.bytes }) c.self.view_is

-- the bytes after the first resize
abbrev more : ℕ → List ℕ → List ℕ
more size bytes = take size bytes ++ replicate (size - length bytes) 0

pub returns-in_err-resize-2-clause-unchanged : goal.returns-in_err-resize-2-clause-unchanged
returns-in_err-resize-2-clause-unchanged c =
    let v = c.self.inside in
    let enough : length v.came.items ≤ length v.bytes.items = omega (arith, v.came.ok.0, v.bytes.ok.0, c.self.invariant.0) in
    let small : length v.came.items ≤ c.args.size = omega (arith, v.came.ok.0, c.len-places.ensures) in
    let bytes : c.resize.new.self.items ≡ more c.args.size v.bytes.items = c.in_ok-resize.ensures.items ∙ ap (λ n. take c.args.size v.bytes.items ++ replicate (c.args.size - n) 0) v.bytes.ok.0 in
    let same : cells c.resize-then-places-size.new.self.items c.resize.new.self.items ≡ cells v.came.items v.bytes.items =
    rw (c.in_err-resize-2.ensures.items, bytes) (longer c.args.size v.came.items v.bytes.items small enough) in
    on_err _ (seen_as v.key v.has_end _ _ c.args.self.now same c.self.view_is)

pub returns-in_ok-resize-2-clause-grown : goal.returns-in_ok-resize-2-clause-grown
returns-in_ok-resize-2-clause-grown c =
    let v = c.self.inside in
    let enough : length v.came.items ≤ length v.bytes.items = omega (arith, v.came.ok.0, v.bytes.ok.0, c.self.invariant.0) in
    let small : length v.came.items ≤ c.args.size = omega (arith, v.came.ok.0, c.len-places.ensures) in
    let bytes : c.resize.new.self.items ≡ more c.args.size v.bytes.items = c.in_ok-resize.ensures.items ∙ ap (λ n. take c.args.size v.bytes.items ++ replicate (c.args.size - n) 0) v.bytes.ok.0 in
    let came : c.resize-then-places-size.new.self.items ≡ take c.args.size v.came.items ++ replicate (c.args.size - length v.came.items) false =
    c.in_ok-resize-2.ensures.items ∙ ap (λ n. take c.args.size v.came.items ++ replicate (c.args.size - n) false) v.came.ok.0 in
    let same : cells c.resize-then-places-size.new.self.items c.resize.new.self.items ≡ grown c.args.size (cells v.came.items v.bytes.items) =
    rw (came, bytes) (all_grown c.args.size v.came.items v.bytes.items small enough) in
    seen_as v.key v.has_end _ _ _ same (ap (λ (k : Kept). record k { bytes = grown c.args.size k.bytes }) c.self.view_is)
