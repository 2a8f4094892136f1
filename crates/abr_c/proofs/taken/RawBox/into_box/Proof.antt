-- All that the two words own is given to `from_raw`, which makes the box of them.
use Rattle.std.proofs.Common.{◌≡◌, List, [], ◌∷◌, ◌++◌, refl, sym, ap, subst}
use lib.Dec.{T}
use seplogic.Ra.Ura.{Ura}
use mir.Syntax.{Fn, Args, Dict, Body, a_type, dcons, dnil, place, copy, assign, rv_opd, seq, return}
use mir.Val.{Val, vptr, has_ty, WT}
use mir.MapTy.{inst_fn}
use base.Logic.{SProp, ent, id⊢}
use base.Fml.{ftrue, fsep, flft}
use prog.Memory.{Memory}
use prog.Routine.{Routine}
use prog.Wp.{WpFn, Tables}
use types.Logic.{Logic}
use types.Kit.{Item, at_ret, ‵, raw, ◌⊛◌, some, later, ◌$◌, ◌∵◌, !, qed, by, move, drop, split, split3, join, fsplit, fjoin, pick, suffices, use1, await, rewrite, feq_i, done}
use types.Run.{stop, fld, of_opd, no_more, and_then, first, blocks, exec, returns, enter}
use types.ByLocal.{alloc_all, pass_all, free_all, look_at, get, get_in, sets, lands_last, env}
use types.Part.{sub, whole}
use sound.WpLaws.{fm_of, WpFn-mono}
use contract.BorrowLft.{◌⊑◌}
use contract.Monad.{Fun, fact}
use contract.Running.{tables, tables_of}
use denote.Exit.{no}
use denote.RattleType.{RattleType}
use denote.Signature.{plain}
use denote.RawPtr.{block_ptr}
use denote.Param.{bounded}
use denote.Steps.{nothing, only, heard}
use denote.Triple.Clauses.{Ended, Clauses}
use denote.Triple.Spec.{triple_of}
use denote.Triple.Statement.{Triple, Contract}
use denote.Triple.Call.{calls_at_last}
use denote.Triple.Table.{entered}
use denote.Triple.Walked.{says, Stays, stay_dropped, walk_of, ends_at, walk_Meets}
use Rattle.core.proofs.alloc.Calls.{token, Goes-blank}
use Rattle.std_alloc.specs.Box.Ownership.{box_owns}
use Rattle.std_alloc.proofs.BoxSteps.Form.{Bx, D, R, P, B, args as box_args, box_ty, word, box_typed}
use Rattle.std_alloc.proofs.BoxSteps.Steps.{box_out, box_in}
use Rattle.std_alloc.specs.contracts.boxed.Box.from_raw as shut
use Rattle.std_alloc.proofs.boxed.Box.from_raw.Symbol as shut_symbol
use Rattle.std_alloc.proofs.boxed.Box.from_raw.Met as shut_met
use Rattle.abr_c.specs.contracts.taken.RawBox as taken
use Rattle.abr_c.specs.contracts.taken.RawBox.into_box as into_box
use Rattle.abr_c.specs.contracts.taken.RawBox.into_box.Key.{name as #into_box}
use Rattle.abr_c.proofs.taken.RawBox.into_box.Statement.{statement}
use Rattle.abr_c.proofs.taken.RawBox.into_box.Code as code

-- the code after the block in which the box is made
abbrev after_block : Body
after_block = seq (assign (place 0 []) (rv_opd (copy (place 4 [])))) return

module _ (E : Bx) (value_drops : Dict) where
  abbrev args : Args
  args = bounded (a_type ∷ a_type ∷ []) (E.row, (E.al.row, tt)) (dcons E.al.d (dcons value_drops (dcons E.al.drops dnil)))

  abbrev body : Fn
  body = inst_fn args code.function

  abbrev ended : Ended
  ended = into_box.ended E.row E.al.row E.al.g E.al.d value_drops E.al.drops

  abbrev From : RattleType
  From = taken.the_row (R E) (P E) E.al.g

  abbrev stayed : Stays ended.signature.params ended.kept
  stayed = (stay_dropped (plain (λ _. From)) no, tt)

  module _ {M : Type 1} {𝓤 : Ura M} (𝓛 : Logic 𝓤) (at_mem : Memory → SProp 𝓤) (run : Routine → Fun 𝓤) (𝓣 : Tables 𝓤 𝓛.H) where
    open 𝓛 use {H}

    abbrev clauses : Clauses 𝓤 ended
    clauses = into_box.clauses E.row E.al.row E.al.g E.al.d value_drops E.al.drops 𝓛 at_mem run

    abbrev Shuts : Contract 𝓤
    Shuts = triple_of 𝓛 (shut.signature E.row E.al.row E.al.g E.al.d E.al.drops) (shut.spec E.row E.al.row E.al.g E.al.d E.al.drops 𝓛 at_mem run)

    walk : Triple 𝓤 (𝓣.C (shut_symbol.name (box_args E))) Shuts
        → (z : (walk_of 𝓛 ended stayed clauses).Ghost) → ent 𝓤 ((walk_of 𝓛 ended stayed clauses).pre z) (WpFn 𝓤 H 𝓣.C 𝓣.Λ body (z.0.4.0 ++ []) ((walk_of 𝓛 ended stayed clauses).post z))
    walk shuts z =
        let κs = z.0.0 in let qs = z.0.1 in let a = z.0.3.0.alloc in let x = z.0.3.0.inside in let Post = (walk_of 𝓛 ended stayed clauses).post z in
        let given : D E = record { ptr = z.0.3.0.at; alloc = a; value = x } in
        let tokens : Item 𝓤 = ‵ (flft κs.0 qs.0) ⊛ ‵ (flft κs.1.0 qs.1.0) ⊛ ‵ ftrue in
        let alive_x : Item 𝓤 = raw (fact 𝓤 (κs.0 ⊑ E.row.lives)) in let alive_a : Item 𝓤 = raw (fact 𝓤 (κs.1.0 ⊑ E.al.row.lives)) in
        qed 𝓛 ((tokens ⊛ ‵ (fsep ((B E).own_val given z.0.4.0) ftrue)) ∷ (alive_x ⊛ alive_a ⊛ ‵ ftrue) ∷ []) ∵ split ! $ move ! (1 ∷ []) $ fsplit ! $
        box_out E ! given z.0.4.0 (λ b o h at words fits. fjoin ! $
        let w = word E h b o in let y : Shuts.Ghost = ((κs, qs, tt, (a, (block_ptr b o, tt)), (h ∷ [], (vptr b o ∷ [], tt))), x) in
        let Γ : List (Item 𝓤) = ‵ (box_owns (token E.al a) (R E) (block_ptr b o) x) ∷ ‵ ((P E).own_val a (h ∷ [])) ∷ ‵ ftrue ∷ tokens ∷ (alive_x ⊛ alive_a ⊛ ‵ ftrue) ∷ [] in
        by ! (subst (λ (us : List Val). ent 𝓤 (types.Kit.⋆ 𝓛 Γ) (WpFn 𝓤 H 𝓣.C 𝓣.Λ body (us ++ []) Post)) (sym words)
        (qed 𝓛 Γ ∵ enter ! 𝓣.C 𝓣.Λ body (w ∷ []) _ $ alloc_all ! (λ ls. pass_all ! refl (box_typed E h b o fits, tt) $
        sets ! (of_opd ! (get_in ! (fld ! refl (stop !)) (sub ! 0 refl (whole !)))) refl (tt, tt) $ sets ! (of_opd ! (get_in ! (fld ! refl (stop !)) (sub ! 1 refl (whole !)))) refl fits $
        first ! $ blocks ! $ sets ! (of_opd ! (get ! refl)) refl fits $
        move ! (4 ∷ []) $ split3 ! $ move ! (2 ∷ []) $ drop ! $ move ! (1 ∷ 2 ∷ []) $ join ! $ move ! (1 ∷ 0 ∷ []) $ join ! $
        move ! (2 ∷ []) $ feq_i ! (List Val) (vptr b o ∷ []) (vptr b o ∷ []) refl $ fjoin ! $ move ! (2 ∷ 0 ∷ []) $ fjoin ! $ move ! (2 ∷ 0 ∷ []) $ join ! $ join ! $ use1 𝓛 (raw (Shuts.pre y)) (id⊢ 𝓤 _) $
        calls_at_last ! (fm_of 𝓤 H 𝓛.laws 𝓣) Shuts shuts y (and_then ! (get ! refl) (and_then ! (get ! refl) (no_more !))) (λ u.
        use1 𝓛 (later (some (λ (r : D E). (tokens ⊛ ‵ ((B E).own_val r (u ∷ []))) ⊛ some (λ (_ : Unit {0} × (Unit {0} × Unit {0})). ‵ (fsep ftrue (fsep ftrue ftrue)) ⊛ (raw (fact 𝓤 (r.value ≡ x)) ⊛ raw (fact 𝓤 (r.alloc ≡ a))))))) (id⊢ 𝓤 _) $
        await ! tt $ pick ! (λ r. split ! $ move ! (1 ∷ []) $ pick ! (λ _. split3 ! $ drop ! $ heard ! (r.value ≡ x) (λ same. drop ! $ split ! $ move ! (1 ∷ []) $
        box_out E ! r (u ∷ []) (λ b' o' h' at' words' fits'. box_in E ! r b' o' r.value at' refl $ rewrite ! 0 (λ (us : List Val). ‵ ((B E).own_val r us)) (sym words') refl $
        let typed : T (has_ty (box_ty E) u) × WT u = subst (λ (s : Val). T (has_ty (box_ty E) s) × WT s) (sym (ap only words')) (box_typed E h' b' o' fits') in
        lands_last ! refl typed $ exec ! 𝓣.C 𝓣.Λ (env body.locals ls) after_block (at_ret (env body.locals ls) Post) $
        sets ! (of_opd ! (get ! refl)) refl typed $ returns ! (look_at ! 0 refl) $ free_all ! refl $
        suffices ! _ (ends_at 𝓛 ended stayed clauses z u r ((tt, (tt, tt)), tt) (tt, tt)) $ says ! same $
        nothing ! $ nothing ! $ fjoin ! $ join ! $ move ! (1 ∷ 0 ∷ []) $ join ! $ done !)))))))))

pub into_box_spec : {M : Type 1} → statement M
unfolding tables_of
into_box_spec 𝓤 𝓛 𝓜 𝓡 wired T A LT LA g d value_drops drops allocator glue glued =
    let E : Bx = record { row = T; laws = LT; al = record { row = A; laws = LA; g = g; d = d; drops = drops } } in
    let 𝓣 : Tables 𝓤 𝓛.H = tables_of 𝓤 𝓛.H 𝓜 (tables 𝓤 𝓛.H 𝓜 𝓡 𝓡.env) in
    entered 𝓤 𝓛.H (triple_of 𝓛 (ended E value_drops).signature (into_box.spec T A g d value_drops drops 𝓛 𝓜.mem 𝓡.returns)) 𝓣.C 𝓣.Λ (#into_box (args E value_drops)) (body E value_drops) (code.unfolded 𝓤 𝓛.H 𝓜 𝓡 wired (T, (A, tt)) d value_drops drops)
    (walk_Meets 𝓛 (ended E value_drops) (stayed E value_drops) (Goes-blank 𝓛 2 (plain (λ _. From E value_drops)) no (λ κs x f. tt), tt) (clauses E value_drops 𝓛 𝓜.mem 𝓡.returns 𝓣) (WpFn 𝓤 𝓛.H 𝓣.C 𝓣.Λ (body E value_drops)) (WpFn-mono 𝓤 𝓛.H 𝓛.laws 𝓣 (body E value_drops))
    (walk E value_drops 𝓛 𝓜.mem 𝓡.returns 𝓣 (shut_met.met 𝓤 𝓛 𝓜 𝓡 (code.calls-std_alloc::boxed::Box::from_raw 𝓡.env wired) T A LT LA g d drops allocator glued)))
