-- How many LSAs a database has after a change.
use Rattle.std.proofs.Common.{◌≡◌, ℕ, ◌+◌, ◌-◌, ◌≤◌, Bool, true, false, cond, T, [], ◌∷◌, map, length, Option, Some, None, refl, sym, ap, subst, ◌∙◌, arith}
use Rattle.std.specs.Prelude.{◌&&◌, nat_le, is_some, is_none}
use Rattle.std.proofs.lemmas.Bool.Decides.{nat_tests}
use Rattle.std.proofs.lemmas.List.{length-map}
use Rattle.std.specs.FinMap.{get, insert, remove, entries, empty, len, len-empty, len-entries, len-insert, len-remove, entries-from_sorted, entries_sorted}
use Rattle.ospf_types.specs.FirstOf.{first_of}
use Rattle.ospf_types.specs.declared.key.Key.{Key}
use Rattle.ospf_types.specs.Keys.{key_cmp}
use Rattle.ospf_types.specs.Lsa.{Lsa, MaxAge, key_of}
use Rattle.ospf_types.proofs.Orders.{key_total}
use Rattle.lsa_codec.specs.Readers.{with_age}
use Rattle.lsdb.specs.Databases.{Database, all_aged, aged_out, changed_at, install_refusal_of, is_older_than, is_same_as, is_full_for}
use Rattle.lsdb.specs.declared.refusal.InstallRefusal.TheVariants as install
use Rattle.event_state.proofs.Aging.{later, sorted_later}

pub none_empty : len {K = Key} {X = Lsa} {R = key_cmp} empty ≡ 0
none_empty = len-empty key_cmp Lsa

third_passed : (a b c : Bool) → first_of ((a, install.Older) ∷ (b, install.Same) ∷ (c, install.Full) ∷ []) ≡ None → c ≡ false
third_passed true b c e = absurd cc
third_passed false true c e = absurd cc
third_passed false false true e = absurd cc
third_passed false false false e = refl

room : (n limit : ℕ) → nat_le limit n ≡ false → n + 1 ≤ limit
room n limit e = grind (arith, nat_tests)

counted_insert : (n limit : ℕ) (o : Option Lsa) → (is_none o && nat_le limit n) ≡ false → n ≤ limit → cond (is_some o) n (n + 1) ≤ limit
counted_insert n limit None e le = room n limit e
counted_insert n limit (Some l) e le = le

-- an LSA that is not refused leaves the database within its limit
pub insert_small : (d : Database) (limit : ℕ) (l : Lsa) → install_refusal_of d limit l ≡ None → len d ≤ limit → len (insert d (key_of l) l) ≤ limit
insert_small d limit l none le =
    let fits : is_full_for d limit l ≡ false = third_passed (is_older_than l (get d (key_of l))) (is_same_as l (get d (key_of l))) (is_full_for d limit l) none in
    subst (λ (n : ℕ). n ≤ limit) (sym (len-insert key_total d (key_of l) l)) (counted_insert (len d) limit (get d (key_of l)) fits le)

pub aged_out_small : (d : Database) (limit : ℕ) (k : Key) → len d ≤ limit → len (aged_out d k) ≤ limit
aged_out_small d limit k le =
    elim (get d k) as (λ o. get d k ≡ o → len (changed_at d k (λ l. with_age l MaxAge) o) ≤ limit) [
      | None ↦ λ e. le
      | Some l ↦ λ e. subst (λ (n : ℕ). n ≤ limit) (sym (len-insert key_total d k (with_age l MaxAge) ∙ ap (λ (o : Option Lsa). cond (is_some o) (len d) (len d + 1)) e)) le
    ] refl

fewer : (b : Bool) (n limit : ℕ) → n ≤ limit → cond b (n - 1) n ≤ limit
fewer true n limit le = omega (arith, le)
fewer false n limit le = le

pub remove_small : (d : Database) (limit : ℕ) (k : Key) → len d ≤ limit → len (remove d k) ≤ limit
remove_small d limit k le = subst (λ (n : ℕ). n ≤ limit) (sym (len-remove key_total d k)) (fewer (is_some (get d k)) (len d) limit le)

-- a second leaves as many
pub len-all_aged : (d : Database) → len (all_aged d) ≡ len d
len-all_aged d = len-entries (all_aged d) ∙ ap length (entries-from_sorted key_cmp (map later (entries d)) (subst T (sym (sorted_later (entries d))) (entries_sorted d))) ∙ length-map (entries d) later ∙ sym (len-entries d)
