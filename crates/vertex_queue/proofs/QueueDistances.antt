-- What waits, as a finite map.
use Rattle.std.proofs.Common.{◌≡◌, ℕ, true, false, List, [], ◌∷◌, length, Option, Some, None, refl, sym, ap, ◌∙◌, arith}
use Rattle.std.specs.Prelude.{is_some, if◌then◌else◌}
use Rattle.std.specs.List.{Contains}
use Rattle.std.specs.FinMap.{empty, entries, keys, get, insert, len, len-entries, contains_key-keys, get-empty, len-empty, same_map}
use Rattle.std.proofs.lemmas.Map.Entries.{length-keys_of}
use Rattle.std.proofs.lemmas.Map.Views.{tells_apart, Contains-from_any}
use Rattle.ospf_types.specs.declared.entry.Vertex.{Vertex}
use Rattle.ospf_types.specs.Vertices.{vertex_cmp}
use Rattle.ospf_types.proofs.VertexOrder.{vertex_total, vertex_exact}
use Rattle.vertex_queue.specs.Queues.{Queue, waits_within, lessened}

-- ---- lessened

-- a vertex that waits at the distance or less stays
pub lessened_kept : (q : Queue) (v : Vertex) (d : ℕ) → waits_within (get q v) d ≡ true → q ≡ lessened q v d
lessened_kept q v d stays = ap (λ b. if b then q else insert q v d) (sym stays)

-- another waits at the distance
pub lessened_set : (q : Queue) (v : Vertex) (d : ℕ) → waits_within (get q v) d ≡ false → insert q v d ≡ lessened q v d
lessened_set q v d farther = ap (λ b. if b then q else insert q v d) (sym farther)

-- ---- none

pub no_items : {X : Type 0} (xs : List X) → length xs ≡ 0 → xs ≡ []
no_items [] none = refl
no_items (x ∷ xs) none = absurd (omega (arith, none))

nothing : {X : Type 0} (xs : List X) → length xs ≡ 0 → (x : X) → Contains xs x → ⊥
nothing [] none x (k, lt, is) = omega (arith, lt)
nothing (y ∷ ys) none x c = absurd (omega (arith, none))

-- where as many as none wait, none waits
pub none_in : (q : Queue) → len q ≡ 0 → q ≡ empty
none_in q none = same_map vertex_total vertex_exact q empty (λ v. absent v (get q v) refl ∙ sym (get-empty vertex_cmp v))
  where
    absent : (v : Vertex) (o : Option ℕ) → get q v ≡ o → get q v ≡ None
    absent v None is = is
    absent v (Some d) is =
        let there : Contains (keys q) v = Contains-from_any (tells_apart vertex_exact) v (keys q) (sym (contains_key-keys q v) ∙ ap is_some is) in
        absurd (nothing (keys q) (omega (arith, none, length-keys_of (entries q), len-entries q)) v there)

pub as_many_as_none : (q : Queue) → q ≡ empty → len q ≡ 0
as_many_as_none q is = ap (λ (m : Queue). len m) is ∙ len-empty vertex_cmp ℕ
