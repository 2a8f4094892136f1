-- The test if an LSA is discarded, and the newest instances after one more.
use Rattle.std.proofs.Common.{◌≡◌, ◌∙◌, Bool, true, false, cond, List, [], ◌∷◌, Option, Some, None, refl, ap, sym, subst}
use Rattle.std.specs.Prelude.{◌&&◌, ◌||◌, not}
use Rattle.std.specs.Map.{lookup}
use Rattle.std.proofs.lemmas.Bool.{eqb-true, eq-eqb}
use Rattle.indexmap.specs.IndexMap.{insert_entry}
use Rattle.ospf_types.specs.Instances.{newer_of}
use Rattle.ospf_types.specs.declared.lsa.Header.{Header}
use Rattle.ospf_types.specs.declared.lsa.Newer.{Newer}
use Rattle.ospf_types.specs.declared.lsa.Newer.TheVariants.{First, Second, Same}
use Rattle.captured_lsas.specs.declared.name.LsaName.{LsaName}
use Rattle.captured_lsas.specs.Newest.{Instance, Newest, same_name, is_first, is_max_age, begins_anew, is_installed, is_discarded, newest_after, newest_of, is_old, with_instance, IsDiscarded, IsDiscardedBy}
use Rattle.captured_lsas.specs.Progress.{CaptureProgress}
use Rattle.captured_lsas.specs.Recording.{is_repeated, IsRepeated}
use Rattle.captured_lsas.proofs.Names.{both, names_same, name_itself}

-- ---- the tests

untrue : (b : Bool) → b ≡ true → b ≡ false → ⊥
untrue true is was = cc
untrue false is was = cc

off : (b : Bool) → not b ≡ true → b ≡ false
off true is = absurd cc
off false is = refl

on : (b : Bool) → not b ≡ false → b ≡ true
on true is = refl
on false is = absurd cc

neither : (a b : Bool) → (a || b) ≡ false → (a ≡ false) × (b ≡ false)
neither true b is = absurd cc
neither false b is = (refl, is)

not_first : (n : Newer) → is_first n ≡ false → n ≡ First → ⊥
not_first n is same = untrue (is_first n) (ap is_first same) is

first : (n : Newer) → is_first n ≡ true → n ≡ First
first First is = refl
first Second is = absurd cc
first Same is = absurd cc

implied : (a b : Bool) → (a && not b) ≡ false → a ≡ true → b ≡ true
implied true b is on_a = on b is
implied false b is on_a = absurd cc

discarded_by : (new last : Header) → is_installed new last ≡ false → IsDiscarded new last
discarded_by new last is =
    let parts = neither (begins_anew new last) (is_first (newer_of new last)) is in
    record {
      not_newer = not_first (newer_of new last) parts.1;
      not_anew = λ flushed. eqb-true new.age 3600 (implied (is_max_age last) (is_max_age new) parts.0 (eq-eqb last.age 3600 flushed));
    }

discarded_is : (new last : Header) → IsDiscarded new last → is_installed new last ≡ false
discarded_is new last d =
    elim (is_installed new last) as (λ b. is_installed new last ≡ b → is_installed new last ≡ false) [
      | true ↦ λ is. absurd (either new last d is)
      | false ↦ λ is. is
    ] refl
  where
    anew : (new last : Header) → IsDiscarded new last → begins_anew new last ≡ true → ⊥
    anew new last d is =
        let parts = both (is_max_age last) (not (is_max_age new)) is in
        untrue (is_max_age new) (eq-eqb new.age 3600 (d.not_anew (eqb-true last.age 3600 parts.0))) (off (is_max_age new) parts.1)

    by : (a b : Bool) → (a || b) ≡ true → (a ≡ true → ⊥) → (b ≡ true → ⊥) → ⊥
    by true b is not_a not_b = not_a refl
    by false b is not_a not_b = not_b is

    either : (new last : Header) → IsDiscarded new last → is_installed new last ≡ true → ⊥
    either new last d is = by (begins_anew new last) (is_first (newer_of new last)) is (anew new last d) (λ f. d.not_newer (first (newer_of new last) f))

old : (h : Header) (o : Option Header) → is_discarded h o ≡ true → IsDiscardedBy h o
old h None is = absurd cc
old h (Some last) is = discarded_by h last (off (is_installed h last) is)

old_is : (h : Header) (o : Option Header) → IsDiscardedBy h o → is_discarded h o ≡ true
old_is h None d = absurd d
old_is h (Some last) d = rw (discarded_is h last d) refl

pub repeated : (p : CaptureProgress) (x : Instance) → is_repeated p x ≡ true → IsRepeated p x
repeated p x is =
    let parts = both (not p.options.keeps_all) (is_old x p.newest) is in
    record { leaves_out = off p.options.keeps_all parts.0; old = old x.header (newest_of x.name p.newest) parts.1 }

pub not_repeated : (p : CaptureProgress) (x : Instance) → is_repeated p x ≡ false → IsRepeated p x → ⊥
not_repeated p x is r =
    let so : is_repeated p x ≡ true = rw r.leaves_out (old_is x.header (newest_of x.name p.newest) r.old) in
    untrue (is_repeated p x) so is

-- ---- one more instance

-- the value that is found after one was put under a name
found_put : {V : Type 0} (q k : LsaName) (v : V) (es : List (LsaName × V)) → lookup (same_name q) (insert_entry same_name es k v) ≡ cond (same_name q k) (Some v) (lookup (same_name q) es)
found_put q k v [] = refl
found_put q k v (e ∷ es) =
    elim (same_name k e.0) as (λ b. same_name k e.0 ≡ b → lookup (same_name q) (cond b ((e.0, v) ∷ es) (e ∷ insert_entry same_name es k v)) ≡ cond (same_name q k) (Some v) (cond (same_name q e.0) (Some e.1) (lookup (same_name q) es))) [
      | true ↦ λ is.
          subst (λ (x : LsaName). cond (same_name q x) (Some v) (lookup (same_name q) es) ≡ cond (same_name q k) (Some v) (cond (same_name q x) (Some e.1) (lookup (same_name q) es))) (names_same k e.0 is)
          (elim (same_name q k) as (λ b. cond b (Some v) (lookup (same_name q) es) ≡ cond b (Some v) (cond b (Some e.1) (lookup (same_name q) es))) [ true ↦ refl | false ↦ refl ])
      | false ↦ λ is.
          ap (cond (same_name q e.0) (Some e.1)) (found_put q k v es)
          ∙ elim (same_name q e.0) as (λ b. same_name q e.0 ≡ b → cond b (Some e.1) (cond (same_name q k) (Some v) (lookup (same_name q) es)) ≡ cond (same_name q k) (Some v) (cond b (Some e.1) (lookup (same_name q) es))) [
            | true ↦ λ here. ap (λ b. cond b (Some v) (Some e.1)) (sym (apart q k e.0 (names_same q e.0 here) is))
            | false ↦ λ here. refl
          ] refl
    ] refl
  where
    apart : (q k n : LsaName) → q ≡ n → same_name k n ≡ false → same_name q k ≡ false
    apart q k n is other =
        elim (same_name q k) as (λ b. same_name q k ≡ b → b ≡ false) [
          | true ↦ λ same. absurd (untrue (same_name k n) (subst (λ (m : LsaName). same_name m n ≡ true) (sym is ∙ names_same q k same) (name_itself n)) other)
          | false ↦ λ same. refl
        ] refl

-- an instance that is discarded changes nothing
stays : (h : Header) (o : Option Header) → is_discarded h o ≡ true → o ≡ Some (newest_after h o)
stays h None is = absurd cc
stays h (Some last) is = ap (λ (b : Bool). Some (cond b h last)) (sym (off (is_installed h last) is))

comes : (h : Header) (o : Option Header) → is_discarded h o ≡ false → Some h ≡ Some (newest_after h o)
comes h None is = refl
comes h (Some last) is = ap (λ (b : Bool). Some (cond b h last)) (sym (on (is_installed h last) is))

pub newest_put : (name : LsaName) (x : Instance) (all : Newest)
    → newest_of name (with_instance x all) ≡ cond (same_name name x.name) (Some (newest_after x.header (newest_of name all))) (newest_of name all)
newest_put name x all =
    elim (is_old x all) as (λ b. is_old x all ≡ b
    → newest_of name (cond b all (insert_entry same_name all x.name x.header)) ≡ cond (same_name name x.name) (Some (newest_after x.header (newest_of name all))) (newest_of name all)) [
      | true ↦ λ is. by (same_name name x.name) refl (λ same. sym (subst (λ (n : LsaName). Some (newest_after x.header (newest_of n all)) ≡ newest_of n all) (sym same) (sym (stays x.header (newest_of x.name all) is))))
      | false ↦ λ is.
          found_put name x.name x.header all
          ∙ among (same_name name x.name) refl (λ same. subst (λ (n : LsaName). Some x.header ≡ Some (newest_after x.header (newest_of n all))) (sym same) (comes x.header (newest_of x.name all) is))
    ] refl
  where
    by : (b : Bool) → same_name name x.name ≡ b → (name ≡ x.name → newest_of name all ≡ Some (newest_after x.header (newest_of name all)))
        → newest_of name all ≡ cond b (Some (newest_after x.header (newest_of name all))) (newest_of name all)
    by true is so = so (names_same name x.name is)
    by false is so = refl

    among : (b : Bool) → same_name name x.name ≡ b → (name ≡ x.name → Some x.header ≡ Some (newest_after x.header (newest_of name all)))
        → cond b (Some x.header) (newest_of name all) ≡ cond b (Some (newest_after x.header (newest_of name all))) (newest_of name all)
    among true is so = so (names_same name x.name is)
    among false is so = refl
