-- A null pointer, and the handle of the heap. They own nothing.
use Rattle.std.proofs.Common.{List, [], ◌∷◌, ◌++◌, refl, sym, subst, lit<}
use Rattle.std.specs.Prelude.{None}
use seplogic.Ra.Ura.{Ura}
use lib.Dec.{T}
use mir.Val.{Val, vstruct, vcons, vnil, has_ty, WT}
use base.Logic.{SProp, ent, emp, id⊢}
use base.Fml.{ftrue, fsep}
use prog.Memory.{Memory}
use prog.Routine.{Routine}
use prog.Wp.{WpFn, Tables}
use types.Logic.{Logic}
use types.Kit.{Item, ‵, raw, ◌⊛◌, ◌$◌, ◌∵◌, !, qed, by, move, drop, use1, join, split, fsplit, fjoin, fpack, feq_i, suffices, done}
use types.Part.{agg}
use types.Run.{lit, no_more, and_then, returns, enter}
use types.ByLocal.{alloc_all, pass_all, free_all, look_at, get, sets}
use sound.WpLaws.{WpFn-mono}
use contract.Monad.{Fun}
use contract.Running.{tables, tables_of}
use denote.Exit.{yes}
use denote.Param.{layout}
use denote.RattleType.{Valss}
use denote.RawPtr.{RawPtr, null_ptr, ptr_val}
use denote.Signature.{plain}
use denote.Struct.Struct.{within}
use denote.Struct.Owning.{shape}
use denote.Steps.{nothing}
use denote.Triple.Spec.{triple_of}
use denote.Triple.Table.{entered}
use denote.Triple.Walked.{says, Stays, stay_dropped, walk_of, ends_at, Goes-dropped, walk_Meets}
use Rattle.core.proofs.alloc.Calls.{α, handle_tells}
use Rattle.std_alloc.proofs.ResultValues.{and_tt}
use Rattle.std_alloc.proofs.BoxSteps.Form.{P}
use Rattle.std_heap.specs.contracts.Global as heap
use Rattle.abr_c.proofs.Core.{boxed_core, CoreHandle}
use Rattle.abr_c.specs.contracts.handle.Handle as handle
use Rattle.abr_c.specs.contracts.handle.Handle.none as none
use Rattle.abr_c.specs.contracts.handle.Handle.none.Key.{name as #none}
use Rattle.abr_c.proofs.handle.Handle.none.Statement.{statement}
use Rattle.abr_c.proofs.handle.Handle.none.Code as code

abbrev stayed : Stays (none.ended).signature.params (none.ended).kept
stayed = (stay_dropped (plain (λ _. heap.the_row)) yes, tt)

module _ {M : Type 1} {𝓤 : Ura M} (𝓛 : Logic 𝓤) (at_mem : Memory → SProp 𝓤) (run : Routine → Fun 𝓤) (𝓣 : Tables 𝓤 𝓛.H) where
  open 𝓛 use {H}

  walk : (z : (walk_of 𝓛 none.ended stayed (none.clauses 𝓛 at_mem run)).Ghost)
      → ent 𝓤 ((walk_of 𝓛 none.ended stayed (none.clauses 𝓛 at_mem run)).pre z) (WpFn 𝓤 H 𝓣.C 𝓣.Λ code.function (z.0.4.0 ++ []) ((walk_of 𝓛 none.ended stayed (none.clauses 𝓛 at_mem run)).post z))
  walk z =
      let Post = (walk_of 𝓛 none.ended stayed (none.clauses 𝓛 at_mem run)).post z in
      let a = z.0.3.0 in
      qed 𝓛 ((‵ ftrue ⊛ ‵ (fsep ((P boxed_core).own_val a z.0.4.0) ftrue)) ∷ raw (emp 𝓤) ∷ []) ∵ split ! $ drop ! $ fsplit ! $
      handle_tells boxed_core.al ! a z.0.4.0 (λ h words fits.
      let w : Val = vstruct (vcons (ptr_val null_ptr) (vcons h vnil)) in let made : CoreHandle.Denot = record { at = null_ptr; alloc = a; inside = None } in
      let typed : T (has_ty (layout CoreHandle) w) × WT w = (and_tt (has_ty (α boxed_core.al) h) fits.0, (record { fits = lit< tt }, (fits.1, tt))) in
      fjoin ! $ feq_i ! (List Val) (ptr_val null_ptr ∷ []) (ptr_val null_ptr ∷ []) refl $ fjoin ! $ feq_i ! (List Val) (w ∷ []) (w ∷ []) refl $ fjoin ! $
      fpack ! (Valss (RawPtr ∷ (heap.the_field).row ∷ [])) (within (shape handle.the_type) (null_ptr, (((a.memory.seal, tt), tt), tt)) (w ∷ [])) (ptr_val null_ptr ∷ [], (h ∷ [], tt)) $
      nothing ! $ move ! (1 ∷ 0 ∷ 2 ∷ []) $ fjoin ! $ use1 𝓛 (‵ (CoreHandle.own_val made (w ∷ []))) (id⊢ 𝓤 _) $ move ! (1 ∷ []) $ drop ! $
      let Γ : List (Item 𝓤) = ‵ (CoreHandle.own_val made (w ∷ [])) ∷ [] in
      by ! (subst (λ (us : List Val). ent 𝓤 (types.Kit.⋆ 𝓛 Γ) (WpFn 𝓤 H 𝓣.C 𝓣.Λ code.function (us ++ []) Post)) (sym words)
      (qed 𝓛 Γ ∵ enter ! 𝓣.C 𝓣.Λ code.function (h ∷ []) _ $ alloc_all ! (λ ls. pass_all ! refl (fits, tt) $
      sets ! (agg ! (and_then ! (lit ! tt) (and_then ! (get ! refl) (no_more !)))) refl typed $ returns ! (look_at ! 0 refl) $ free_all ! refl $
      suffices ! _ (ends_at 𝓛 none.ended stayed (none.clauses 𝓛 at_mem run) z w made (tt, tt) (tt, tt)) $ says ! refl $
      nothing ! $ nothing ! $ fjoin ! $ join ! $ nothing ! $ join ! $ done !))))

pub none_spec : {M : Type 1} → statement M
unfolding tables_of
none_spec 𝓤 𝓛 𝓜 𝓡 wired =
    let 𝓣 : Tables 𝓤 𝓛.H = tables_of 𝓤 𝓛.H 𝓜 (tables 𝓤 𝓛.H 𝓜 𝓡 𝓡.env) in
    entered 𝓤 𝓛.H (triple_of 𝓛 none.signature (none.spec 𝓛 𝓜.mem 𝓡.returns)) 𝓣.C 𝓣.Λ #none code.function (code.unfolded 𝓤 𝓛.H 𝓜 𝓡 wired)
    (walk_Meets 𝓛 none.ended stayed (Goes-dropped 𝓛 0 (plain (λ _. heap.the_row)) yes (λ κs x f. refl), tt) (none.clauses 𝓛 𝓜.mem 𝓡.returns) (WpFn 𝓤 𝓛.H 𝓣.C 𝓣.Λ code.function) (WpFn-mono 𝓤 𝓛.H 𝓛.laws 𝓣 code.function)
    (walk 𝓛 𝓜.mem 𝓡.returns 𝓣))
