-- The published table after a publication.
use Rattle.std.proofs.Common.{◌≡◌, List, fold, Option, Some, Result, Ok, Err, MatchResult, MatchBool, sym, ap, ◌∙◌, subst}
use Rattle.std.specs.Result.{is_ok}
use mathlib.Core.List.{IsPrefix}
use Rattle.event_state.specs.declared.base.Base.{Base}
use Rattle.publication.specs.declared.published_table.PublishedTable.{PublishedTable}
use Rattle.publication.specs.declared.published_table.Update.{Update}
use Rattle.publication.specs.Lines.{HistoryLine}
use Rattle.publication.specs.Names.{Name}
use Rattle.publication.specs.Updates.{updated, shown_state_of, IsRightState}
use Rattle.publication.proofs.Prefixes.{prefix_self}
use Rattle.publication.specs.Published.{IsShownRight, IsTableFor, name_of, Saw}

-- the result of the pending updates is right, and has the name of the published table
pub gives_right : (x next : PublishedTable) (us : List Update) (line : HistoryLine)
    → shown_state_of next ≡ fold updated (shown_state_of x) us
    → IsRightState line x.base (fold updated (shown_state_of x) us)
    → line.book ≡ x.front.book
    → (name_of next ≡ name_of x) × IsShownRight next × (next.front ≡ line)
gives_right x next us line is face book =
    let right : IsRightState line x.base (shown_state_of next) = subst (IsRightState line x.base) (sym is) face in
    let front : next.front ≡ line = right.front in
    let base : next.base ≡ x.base = right.base_is in
    let same_book : next.front.book ≡ x.front.book = ap (λ (l : HistoryLine). l.book) front ∙ book in (
      (λ i. record { book = same_book i; base = base i }),
      subst (λ (z : Base × HistoryLine). IsTableFor z.0 z.1.list next.table) (λ i. (sym base i, sym front i)) right.right,
      front,
    )

-- if it was published or not, the name stays, and the writer knows it if it was
pub known_after : {U E : Type 0} (r : Result U E) (Q Q' : Type 0) (x y : PublishedTable) (v w : Option Name) (us : List Update) (line : HistoryLine)
    → MatchResult r (λ _. (shown_state_of y ≡ fold updated (shown_state_of x) us) × Q) (λ _. (y ≡ x) × Q')
    → MatchResult r (λ _. Saw v x y w) (λ _. w ≡ v)
    → IsRightState line x.base (fold updated (shown_state_of x) us)
    → line.book ≡ x.front.book
    → (name_of y ≡ name_of x) × MatchBool (is_ok r) (w ≡ Some (name_of x)) (w ≡ v)
known_after (Ok u) Q Q' x y v w us line values rule face book =
    let all = gives_right x y us line values.0 face book in (all.0, rule.0 ∙ ap Some all.0)
known_after (Err e) Q Q' x y v w us line values rule face book = (ap name_of values.0, rule)

-- if it was published or not, the published list begins with the one before
pub grows_after : {U E : Type 0} (r : Result U E) (P Q Q' : Type 0) (x y : PublishedTable) (v w : Option Name)
    → MatchResult r (λ _. P × Q) (λ _. (y ≡ x) × Q')
    → MatchResult r (λ _. Saw v x y w) (λ _. w ≡ v)
    → IsPrefix x.front.list y.front.list
grows_after (Ok u) P Q Q' x y v w values rule = rule.3
grows_after (Err e) P Q Q' x y v w values rule = subst (λ (z : PublishedTable). IsPrefix x.front.list z.front.list) (sym values.0) (prefix_self x.front.list)
