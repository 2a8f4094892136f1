-- A handle that has a core owns what a box of the core owns. That goes with its two words.
use Rattle.std.proofs.Common.{◌≡◌, List, [], ◌∷◌, ◌++◌, refl, sym, subst}
use Rattle.std.specs.Prelude.{Option, Some, None, is_some, true}
use Rattle.std.proofs.lemmas.Bool.{false≢true}
use seplogic.Ra.Ura.{Ura}
use mir.Val.{Val}
use base.Logic.{SProp, ent, id⊢}
use base.Fml.{ftrue, fsep}
use prog.Memory.{Memory}
use prog.Routine.{Routine}
use prog.Wp.{WpFn, Tables}
use types.Logic.{Logic}
use types.Kit.{Item, ‵, raw, ◌⊛◌, ◌$◌, ◌∵◌, !, qed, by, move, drop, use1, join, split, fsplit, fjoin, rewrite, suffices, done}
use types.Part.{whole, sub, agg}
use types.Run.{stop, fld, no_more, and_then, of_opd, returns, enter}
use types.ByLocal.{alloc_all, pass_all, free_all, look_at, get, get_in, sets}
use sound.WpLaws.{WpFn-mono}
use contract.Monad.{Fun, fact}
use contract.Running.{tables, tables_of}
use denote.Exit.{yes}
use denote.Signature.{plain}
use denote.Steps.{nothing, heard}
use denote.Triple.Spec.{triple_of}
use denote.Triple.Table.{entered}
use denote.Triple.Walked.{says, Stays, stay_dropped, walk_of, ends_at, Goes-dropped, walk_Meets}
use Rattle.std_alloc.proofs.BoxSteps.Form.{D, B, X, word, box_typed}
use Rattle.std_alloc.proofs.BoxSteps.Steps.{box_out, box_in}
use Rattle.abr_c.proofs.Core.{boxed_core, TakenCore, CoreHandle, taken_of}
use Rattle.abr_c.specs.contracts.handle.Handle.into_taken as into_taken
use Rattle.abr_c.specs.contracts.handle.Handle.into_taken.Key.{name as #into_taken}
use Rattle.abr_c.proofs.handle.Handle.into_taken.Statement.{statement}
use Rattle.abr_c.proofs.handle.Handle.into_taken.Code as code

-- the value of an option that has one
the_one : {A : Type 0} (o : Option A) → is_some o ≡ true → (x : A) × (o ≡ Some x)
the_one None known = absurd (false≢true known)
the_one (Some x) known = (x, refl)

abbrev stayed : Stays (into_taken.ended).signature.params (into_taken.ended).kept
stayed = (stay_dropped (plain (λ _. CoreHandle)) yes, tt)

module _ {M : Type 1} {𝓤 : Ura M} (𝓛 : Logic 𝓤) (at_mem : Memory → SProp 𝓤) (run : Routine → Fun 𝓤) (𝓣 : Tables 𝓤 𝓛.H) where
  open 𝓛 use {H}

  walk : (z : (walk_of 𝓛 into_taken.ended stayed (into_taken.clauses 𝓛 at_mem run)).Ghost)
      → ent 𝓤 ((walk_of 𝓛 into_taken.ended stayed (into_taken.clauses 𝓛 at_mem run)).pre z) (WpFn 𝓤 H 𝓣.C 𝓣.Λ code.function (z.0.4.0 ++ []) ((walk_of 𝓛 into_taken.ended stayed (into_taken.clauses 𝓛 at_mem run)).post z))
  walk z =
      let Post = (walk_of 𝓛 into_taken.ended stayed (into_taken.clauses 𝓛 at_mem run)).post z in
      let at₀ = z.0.3.0.at in let a = z.0.3.0.alloc in let held = z.0.3.0.inside in
      qed 𝓛 ((‵ ftrue ⊛ ‵ (fsep (CoreHandle.own_val z.0.3.0 z.0.4.0) ftrue)) ∷ raw (fact 𝓤 (is_some held ≡ true)) ∷ []) ∵ move ! (1 ∷ []) $ heard ! (is_some held ≡ true) (λ known. let there = the_one held known in let given : D boxed_core = record { ptr = at₀; alloc = a; value = there.0 } in let made = taken_of given in split ! $ drop ! $ fsplit ! $
      rewrite ! 0 (λ (inside : Option (X boxed_core)). ‵ (CoreHandle.own_val (record { at = at₀; alloc = a; inside = inside }) z.0.4.0)) there.1 refl $ use1 𝓛 (‵ ((B boxed_core).own_val given z.0.4.0)) (id⊢ 𝓤 _) $
      box_out boxed_core ! given z.0.4.0 (λ b o h at words fits. box_in boxed_core ! given b o given.value at refl $
      let w = word boxed_core h b o in let typed = box_typed boxed_core h b o fits in
      use1 𝓛 (‵ (TakenCore.own_val made (w ∷ []))) (id⊢ 𝓤 _) $ move ! (1 ∷ []) $ drop ! $
      let Γ : List (Item 𝓤) = ‵ (TakenCore.own_val made (w ∷ [])) ∷ [] in
      by ! (subst (λ (us : List Val). ent 𝓤 (types.Kit.⋆ 𝓛 Γ) (WpFn 𝓤 H 𝓣.C 𝓣.Λ code.function (us ++ []) Post)) (sym words)
      (qed 𝓛 Γ ∵ enter ! 𝓣.C 𝓣.Λ code.function (w ∷ []) _ $ alloc_all ! (λ ls. pass_all ! refl (typed, tt) $
      sets ! (of_opd ! (get_in ! (fld ! refl (stop !)) (sub ! 0 refl (whole !)))) refl (tt, tt) $ sets ! (of_opd ! (get_in ! (fld ! refl (stop !)) (sub ! 1 refl (whole !)))) refl fits $
      sets ! (of_opd ! (get ! refl)) refl (tt, tt) $
      sets ! (agg ! (and_then ! (get ! refl) (and_then ! (get ! refl) (no_more !)))) refl typed $ returns ! (look_at ! 0 refl) $ free_all ! refl $
      suffices ! _ (ends_at 𝓛 into_taken.ended stayed (into_taken.clauses 𝓛 at_mem run) z w made (tt, tt) (tt, tt)) $ says ! there.1 $
      nothing ! $ nothing ! $ fjoin ! $ join ! $ nothing ! $ join ! $ done !)))))

pub into_taken_spec : {M : Type 1} → statement M
unfolding tables_of
into_taken_spec 𝓤 𝓛 𝓜 𝓡 wired =
    let 𝓣 : Tables 𝓤 𝓛.H = tables_of 𝓤 𝓛.H 𝓜 (tables 𝓤 𝓛.H 𝓜 𝓡 𝓡.env) in
    entered 𝓤 𝓛.H (triple_of 𝓛 into_taken.signature (into_taken.spec 𝓛 𝓜.mem 𝓡.returns)) 𝓣.C 𝓣.Λ #into_taken code.function (code.unfolded 𝓤 𝓛.H 𝓜 𝓡 wired)
    (walk_Meets 𝓛 into_taken.ended stayed (Goes-dropped 𝓛 0 (plain (λ _. CoreHandle)) yes (λ κs x f. refl), tt) (into_taken.clauses 𝓛 𝓜.mem 𝓡.returns) (WpFn 𝓤 𝓛.H 𝓣.C 𝓣.Λ code.function) (WpFn-mono 𝓤 𝓛.H 𝓛.laws 𝓣 code.function)
    (walk 𝓛 𝓜.mem 𝓡.returns 𝓣))
