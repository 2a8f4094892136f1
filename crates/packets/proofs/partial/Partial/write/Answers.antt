use Rattle.std.proofs.Common.{◌≡◌, ◌≤◌, ◌+◌, List, Bool, ap, sym, ◌∙◌, length, arith, ◌++◌, true, take, drop, replicate, ℕ}
use Rattle.std.specs.Vec.{with_items}
use Rattle.std.proofs.lemmas.List.{with_items_is}
use Rattle.packets.specs.Kept.{Kept, cells, count_missing, written}
use Rattle.packets.proofs.Missing.{count_marked}
use Rattle.packets.proofs.Cells.{seen_as, length-cells, all_written}
use Rattle.packets.proofs.partial.Partial.write.Goals as goal

pub put-requires : goal.put-requires
put-requires c =
    let v = c.self.inside in
    let enough : length v.came.items ≤ length v.bytes.items = omega (arith, v.came.ok.0, v.bytes.ok.0, c.self.invariant.0) in
    let size : length v.came.items ≡ length c.args.self.now.bytes = sym (length-cells v.came.items v.bytes.items enough) ∙ ap (λ (k : Kept). length k.bytes) c.self.view_is in
    omega (arith, ap length c.deref_mut.ensures.value)

pub mark-requires : goal.mark-requires
mark-requires c =
    let v = c.self.inside in
    let enough : length v.came.items ≤ length v.bytes.items = omega (arith, v.came.ok.0, v.bytes.ok.0, c.self.invariant.0) in
    let size : length v.came.items ≡ length c.args.self.now.bytes = sym (length-cells v.came.items v.bytes.items enough) ∙ ap (λ (k : Kept). length k.bytes) c.self.view_is in
    omega (arith, ap length c.deref_mut-2.ensures.value)

pub missing_in-requires : goal.missing_in-requires
missing_in-requires c =
    let v = c.self.inside in
    let enough : length v.came.items ≤ length v.bytes.items = omega (arith, v.came.ok.0, v.bytes.ok.0, c.self.invariant.0) in
    let size : length v.came.items ≡ length c.args.self.now.bytes = sym (length-cells v.came.items v.bytes.items enough) ∙ ap (λ (k : Kept). length k.bytes) c.self.view_is in
    omega (arith, ap length c.deref.ensures.value)

pub overflow_sub-self : goal.overflow_sub-self
overflow_sub-self c =
    let came = c.self.inside.came.items in
    let part : c.missing_in.result ≡ count_missing (take (length c.args.payload.now) (drop c.args.offset came)) =
    c.missing_in.ensures ∙ ap (λ (l : List Bool). count_missing (take (length c.args.payload.now) (drop c.args.offset l))) c.deref.ensures.value in
    let all : c.self.inside.missing ≡ count_missing came = c.self.invariant.2 in
    omega (arith, count_marked c.args.offset (length c.args.payload.now) came)

pub invariant_of-self : goal.invariant_of-self
invariant_of-self c =
    let v = c.self.inside in
    let came = v.came.items in
    let size : ℕ = length c.args.payload.now in
    let part : c.missing_in.result ≡ count_missing (take size (drop c.args.offset came)) =
    c.missing_in.ensures ∙ ap (λ (l : List Bool). count_missing (take size (drop c.args.offset l))) c.deref.ensures.value in
    let all : v.missing ≡ count_missing came = c.self.invariant.2 in
    let new : (with_items v.came c.mark.new.came).items ≡ take c.args.offset came ++ replicate size true ++ drop (c.args.offset + size) came =
    with_items_is v.came c.mark.new.came (c.mark.auto.came ∙ ap length c.deref_mut-2.ensures.value ∙ sym v.came.ok.0)
    ∙ c.mark.ensures ∙ ap (λ (l : List Bool). take c.args.offset l ++ replicate size true ++ drop (c.args.offset + size) l) c.deref_mut-2.ensures.value in
    let counted : count_missing (with_items v.came c.mark.new.came).items ≡ count_missing (take c.args.offset came ++ replicate size true ++ drop (c.args.offset + size) came) = ap count_missing new in
    (c.self.invariant.0, c.self.invariant.1, omega (arith, count_marked c.args.offset size came))

pub returns : goal.returns
returns c =
    let v = c.self.inside in
    let enough : length v.came.items ≤ length v.bytes.items = omega (arith, v.came.ok.0, v.bytes.ok.0, c.self.invariant.0) in
    let size : length v.came.items ≡ length c.args.self.now.bytes = sym (length-cells v.came.items v.bytes.items enough) ∙ ap (λ (k : Kept). length k.bytes) c.self.view_is in
    let inside : c.args.offset + length c.args.payload.now ≤ length v.came.items = omega arith in
    let came : (with_items v.came c.mark.new.came).items ≡ c.mark.new.came = with_items_is v.came c.mark.new.came (c.mark.auto.came ∙ ap length c.deref_mut-2.ensures.value ∙ sym v.came.ok.0) in
    let bytes : (with_items v.bytes c.put.new.bytes).items ≡ c.put.new.bytes = with_items_is v.bytes c.put.new.bytes (c.put.auto.bytes ∙ ap length c.deref_mut.ensures.value ∙ sym v.bytes.ok.0) in
    let same : cells c.mark.new.came c.put.new.bytes ≡ written c.args.offset c.args.payload.now (cells v.came.items v.bytes.items) =
    rw (c.mark.ensures, c.put.ensures, c.deref_mut.ensures.value, c.deref_mut-2.ensures.value) (all_written c.args.offset c.args.payload.now v.came.items v.bytes.items inside enough) in
    let all : cells (with_items v.came c.mark.new.came).items (with_items v.bytes c.put.new.bytes).items ≡ written c.args.offset c.args.payload.now (cells v.came.items v.bytes.items) =
    ap (λ (m : List Bool). cells m (with_items v.bytes c.put.new.bytes).items) came ∙ ap (cells c.mark.new.came) bytes ∙ same in
    seen_as v.key v.has_end _ _ _ all (ap (λ (k : Kept). record k { bytes = written c.args.offset c.args.payload.now k.bytes }) c.self.view_is)
