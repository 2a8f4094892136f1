-- The job is the command that was met.
use Rattle.std.proofs.Common.{Bool, ℕ, ◌≡◌, ◌≢◌, ◌⊎◌, ◌∙◌, sym, ap, subst, refl, inl, inr, lit<, List, [], Option, Some, codes, slice_index, ◌<◌, arith}
use Rattle.std.specs.Str.{bytes_eq}
use Rattle.clap.specs.Words.{Row, Text, kind_of, subcommand_of}
use Rattle.clap.specs.Faults.{fault_of}
use Rattle.clap.specs.Kinds.{HasKind, IsAmong, Kinds}
use Rattle.clap.specs.declared.error.Error.{Error}
use Rattle.clap.specs.declared.error.kind.ErrorKind.TheVariants.{OutOfMemory}
use Rattle.output_lines.specs.declared.format.Format.{Format}
use Rattle.output_lines.specs.declared.format.Format.TheVariants as form
use Rattle.output_lines.specs.declared.format.Show.{Show}
use Rattle.output_lines.specs.declared.format.Show.TheVariants.{Routes, Due, Lsdb, Journal}
use Rattle.cli_args.specs.Command.{ReplayTexts, ChangesTexts, FollowTexts, ExplainTexts, PageTexts, CaptureTexts, HasFormat, HasCaptureWords, HasChangesWords, HasDecodeWords, HasExplainWords, HasFlag, HasFollowWords, HasJob, HasJobWords, HasPageWords, HasReplayWords, HasTexts, HasWords, IsJobFit, IsJob, IsMistake, JobTexts, OfOne, OfDecode, OfReplay, OfChanges, OfFollow, OfExplain, OfPage, OfCapture, OfFault, OneTexts, WritesWorkers, command_name, job_texts, program, show_name, format_name}
use Rattle.cli_args.specs.declared.command.Job.{Job}
use Rattle.cli_args.specs.declared.command.Job.TheVariants.{One, Decode, Replay, Changes, Follow, Explain, Page, Capture, Fault}
use Rattle.cli_args.specs.declared.command.Usage.{Usage}
use Rattle.cli_args.specs.declared.command.Usage.TheVariants.{Told, Memory}
use Rattle.cli_args.proofs.Matches.{apart, one_given}

texts_same : (a b c d e a2 b2 c2 d2 e2 : Text) → a ≡ a2 → b ≡ b2 → c ≡ c2 → d ≡ d2 → e ≡ e2
    → (let x : OneTexts = record { router = a; area = b; address = c; lsa = d; lookup = e } in
    let y : OneTexts = record { router = a2; area = b2; address = c2; lsa = d2; lookup = e2 } in x ≡ y)
texts_same a b c d e a2 b2 c2 d2 e2 p q r s u = rw (p, q, r, s, u) refl

words_unique : (given : List Row) (t u : OneTexts) → HasWords given t → HasWords given u → t ≡ u
words_unique given t u h k = texts_same t.router t.area t.address t.lsa t.lookup u.router u.area u.address u.lsa u.lookup (cc) (cc) (cc) (cc) (cc)

shows_differ : (name other next : Text) → slice_index other 0 < slice_index next 0 → name ≡ other → name ≡ next → ⊥
shows_differ name other next less e f =
    let same : slice_index other 0 ≡ slice_index next 0 = ap (λ (t : Text). slice_index t 0) (sym e ∙ f) in
    absurd (omega arith)

show_unique : (a b : Show) → show_name a ≡ show_name b → a ≡ b
show_unique Routes Routes e = refl
show_unique Routes Due e = absurd (shows_differ (show_name Routes) (show_name Due) (show_name Routes) (lit< tt) e refl)
show_unique Routes Lsdb e = absurd (shows_differ (show_name Routes) (show_name Lsdb) (show_name Routes) (lit< tt) e refl)
show_unique Routes Journal e = absurd (shows_differ (show_name Routes) (show_name Journal) (show_name Routes) (lit< tt) e refl)
show_unique Due Routes e = absurd (shows_differ (show_name Due) (show_name Due) (show_name Routes) (lit< tt) refl e)
show_unique Due Due e = refl
show_unique Due Lsdb e = absurd (shows_differ (show_name Due) (show_name Due) (show_name Lsdb) (lit< tt) refl e)
show_unique Due Journal e = absurd (shows_differ (show_name Due) (show_name Due) (show_name Journal) (lit< tt) refl e)
show_unique Lsdb Routes e = absurd (shows_differ (show_name Lsdb) (show_name Lsdb) (show_name Routes) (lit< tt) refl e)
show_unique Lsdb Due e = absurd (shows_differ (show_name Lsdb) (show_name Due) (show_name Lsdb) (lit< tt) e refl)
show_unique Lsdb Lsdb e = refl
show_unique Lsdb Journal e = absurd (shows_differ (show_name Lsdb) (show_name Journal) (show_name Lsdb) (lit< tt) e refl)
show_unique Journal Routes e = absurd (shows_differ (show_name Journal) (show_name Journal) (show_name Routes) (lit< tt) refl e)
show_unique Journal Due e = absurd (shows_differ (show_name Journal) (show_name Due) (show_name Journal) (lit< tt) e refl)
show_unique Journal Lsdb e = absurd (shows_differ (show_name Journal) (show_name Journal) (show_name Lsdb) (lit< tt) refl e)
show_unique Journal Journal e = refl

format_unique : (a b : Format) → format_name a ≡ format_name b → a ≡ b
format_unique form.Text form.Text e = refl
format_unique form.Text form.Json e = absurd (apart (format_name form.Text) (format_name form.Json) refl e)
format_unique form.Json form.Text e = absurd (apart (format_name form.Json) (format_name form.Text) refl e)
format_unique form.Json form.Json e = refl

workers_unique : (word : Text) (m n : ℕ) → WritesWorkers word m → WritesWorkers word n → m ≡ n
workers_unique word m n h k = sym h.written ∙ k.written

flag_unique : (rows : List Row) (id : Text) (a b : Bool) → HasFlag rows id a → HasFlag rows id b → a ≡ b
flag_unique rows id a b h k = sym h.2 ∙ ap (λ (value : Text). bytes_eq value (codes "true")) (one_given _ _ _ h.1 k.1) ∙ k.2

decode_unique : (rows : List Row) (a b : Text) (x y : Bool) → HasDecodeWords rows a x → HasDecodeWords rows b y → OfDecode a x ≡ OfDecode b y
decode_unique rows a b x y h k = rw (one_given _ a b h.0 k.0, flag_unique rows (codes "long") x y h.1 k.1) refl

form_unique : (rows : List Row) (a b : Format) → HasFormat rows a → HasFormat rows b → a ≡ b
form_unique rows a b h k = format_unique a b (one_given _ (format_name a) (format_name b) h k)

replays_same : (a b : Text) (m n : ℕ) (x y : Show) (v w : Format) (p q : Bool) → a ≡ b → m ≡ n → x ≡ y → v ≡ w → p ≡ q
    → (let t : ReplayTexts = record { file = a; workers = m; show = x; format = v; progress = p } in
    let u : ReplayTexts = record { file = b; workers = n; show = y; format = w; progress = q } in t ≡ u)
replays_same a b m n x y v w p q e f g h k = rw (e, f, g, h, k) refl

replay_unique : (rows : List Row) (t u : ReplayTexts) → HasReplayWords rows t → HasReplayWords rows u → t ≡ u
replay_unique rows t u h k =
    let count = workers_unique k.1.0 t.workers u.workers (subst (λ (w : Text). WritesWorkers w t.workers) (one_given _ h.1.0 k.1.0 h.1.1 k.1.1) h.1.2) k.1.2 in
    let shown = show_unique t.show u.show (one_given _ (show_name t.show) (show_name u.show) h.2 k.2) in
    replays_same t.file u.file t.workers u.workers t.show u.show t.format u.format t.progress u.progress
    (one_given _ t.file u.file h.0 k.0) count shown (form_unique rows t.format u.format h.3 k.3) (flag_unique rows (codes "progress") t.progress u.progress h.4 k.4)

changes_same : (a b : Text) (x y : Option Text) (v w : Format) (p q : Bool) → a ≡ b → x ≡ y → v ≡ w → p ≡ q
    → (let t : ChangesTexts = record { file = a; only = x; format = v; progress = p } in
    let u : ChangesTexts = record { file = b; only = y; format = w; progress = q } in t ≡ u)
changes_same a b x y v w p q e f g h = rw (e, f, g, h) refl

changes_unique : (rows : List Row) (t u : ChangesTexts) → HasChangesWords rows t → HasChangesWords rows u → t ≡ u
changes_unique rows t u h k =
    changes_same t.file u.file t.only u.only t.format u.format t.progress u.progress
    (one_given _ t.file u.file h.0 k.0) (sym h.1 ∙ k.1) (form_unique rows t.format u.format h.2 k.2) (flag_unique rows (codes "progress") t.progress u.progress h.3 k.3)

follows_same : (x y : Option Text) (p q : Bool) (v w : Format) → x ≡ y → p ≡ q → v ≡ w
    → (let t : FollowTexts = record { only = x; strict = p; format = v } in
    let u : FollowTexts = record { only = y; strict = q; format = w } in t ≡ u)
follows_same x y p q v w e f g = rw (e, f, g) refl

follow_unique : (rows : List Row) (t u : FollowTexts) → HasFollowWords rows t → HasFollowWords rows u → t ≡ u
follow_unique rows t u h k =
    follows_same t.only u.only t.strict u.strict t.format u.format
    (sym h.0 ∙ k.0) (flag_unique rows (codes "strict") t.strict u.strict h.1 k.1) (form_unique rows t.format u.format h.2 k.2)

explains_same : (a b c d : Text) (x y : Option Text) (v w : Format) (p q : Bool) → a ≡ b → c ≡ d → x ≡ y → v ≡ w → p ≡ q
    → (let t : ExplainTexts = record { file = a; address = c; due = x; format = v; progress = p } in
    let u : ExplainTexts = record { file = b; address = d; due = y; format = w; progress = q } in t ≡ u)
explains_same a b c d x y v w p q e f g h k = rw (e, f, g, h, k) refl

explain_unique : (rows : List Row) (t u : ExplainTexts) → HasExplainWords rows t → HasExplainWords rows u → t ≡ u
explain_unique rows t u h k =
    explains_same t.file u.file t.address u.address t.due u.due t.format u.format t.progress u.progress
    (one_given _ t.file u.file h.0 k.0) (one_given _ t.address u.address h.1 k.1) (sym h.2 ∙ k.2)
    (form_unique rows t.format u.format h.3 k.3) (flag_unique rows (codes "progress") t.progress u.progress h.4 k.4)

pages_same : (a b : Text) (x y : Option Text) (p q : Bool) → a ≡ b → x ≡ y → p ≡ q
    → (let t : PageTexts = record { file = a; output = x; progress = p } in
    let u : PageTexts = record { file = b; output = y; progress = q } in t ≡ u)
pages_same a b x y p q e f g = rw (e, f, g) refl

page_unique : (rows : List Row) (t u : PageTexts) → HasPageWords rows t → HasPageWords rows u → t ≡ u
page_unique rows t u h k =
    pages_same t.file u.file t.output u.output t.progress u.progress
    (one_given _ t.file u.file h.0 k.0) (sym h.1 ∙ k.1) (flag_unique rows (codes "progress") t.progress u.progress h.2 k.2)

captures_same : (a b : Text) (v w x y : Option Text) (p q m n : Bool) → a ≡ b → v ≡ w → x ≡ y → p ≡ q → m ≡ n
    → (let t : CaptureTexts = record { file = a; router = v; begin = x; keeps_all = p; without_seconds = m } in
    let u : CaptureTexts = record { file = b; router = w; begin = y; keeps_all = q; without_seconds = n } in t ≡ u)
captures_same a b v w x y p q m n e f g h k = rw (e, f, g, h, k) refl

capture_unique : (rows : List Row) (t u : CaptureTexts) → HasCaptureWords rows t → HasCaptureWords rows u → t ≡ u
capture_unique rows t u h k =
    captures_same t.file u.file t.router u.router t.begin u.begin t.keeps_all u.keeps_all t.without_seconds u.without_seconds
    (one_given _ t.file u.file h.0 k.0) (sym h.1 ∙ k.1) (sym h.2 ∙ k.2)
    (flag_unique rows (codes "all") t.keeps_all u.keeps_all h.3 k.3)
    (flag_unique rows (codes "no-seconds") t.without_seconds u.without_seconds h.4 k.4)

-- the words of one command were given for one job
same_texts : (rows : List Row) (a b : JobTexts) → command_name a ≡ command_name b → HasJobWords rows a → HasJobWords rows b → a ≡ b
same_texts rows (OfOne t) (OfOne u) e h k = ap OfOne (words_unique rows t u h k)
same_texts rows (OfOne t) other e h k = absurd (apart (codes "one") (command_name other) refl e)
same_texts rows (OfDecode a x) (OfDecode b y) e h k = decode_unique rows a b x y h k
same_texts rows (OfDecode a x) other e h k = absurd (apart (codes "decode") (command_name other) refl e)
same_texts rows (OfReplay t) (OfReplay u) e h k = ap OfReplay (replay_unique rows t u h k)
same_texts rows (OfReplay t) other e h k = absurd (apart (codes "replay") (command_name other) refl e)
same_texts rows (OfChanges t) (OfChanges u) e h k = ap OfChanges (changes_unique rows t u h k)
same_texts rows (OfChanges t) other e h k = absurd (apart (codes "changes") (command_name other) refl e)
same_texts rows (OfFollow t) (OfFollow u) e h k = ap OfFollow (follow_unique rows t u h k)
same_texts rows (OfFollow t) other e h k = absurd (apart (codes "follow") (command_name other) refl e)
same_texts rows (OfExplain t) (OfExplain u) e h k = ap OfExplain (explain_unique rows t u h k)
same_texts rows (OfExplain t) other e h k = absurd (apart (codes "explain") (command_name other) refl e)
same_texts rows (OfPage t) (OfPage u) e h k = ap OfPage (page_unique rows t u h k)
same_texts rows (OfPage t) other e h k = absurd (apart (codes "page") (command_name other) refl e)
same_texts rows (OfCapture t) (OfCapture u) e h k = ap OfCapture (capture_unique rows t u h k)
same_texts rows (OfCapture t) other e h k = absurd (apart (codes "capture") (command_name other) refl e)
same_texts rows (OfFault a) (OfFault b) e h k = ap OfFault (one_given _ a b h k)
same_texts rows (OfFault a) other e h k = absurd (apart (codes "fault") (command_name other) refl e)

pub unique : (s : Option (Text × List Row)) (a b : JobTexts) → HasTexts s a → HasTexts s b → a ≡ b
unique s a b h k =
    let both : Some (command_name a, h.0) ≡ Some (command_name b, k.0) = sym h.1 ∙ k.1 in
    let same : (command_name a, h.0) ≡ (command_name b, k.0) = cc in
    same_texts k.0 a b (ap (λ (m : Text × List Row). m.0) same) (subst (λ (r : List Row). HasJobWords r a) (ap (λ (m : Text × List Row). m.1) same) h.2) k.2

pub job_is_fit : (s : Option (Text × List Row)) (job : Job) → IsJob s job → IsJobFit job
job_is_fit s (One w) h = tt
job_is_fit s (Decode word long) h = tt
job_is_fit s (Replay file workers show format progress) h = h.2.1.2.within
job_is_fit s (Changes file only format progress) h = tt
job_is_fit s (Follow only strict format) h = tt
job_is_fit s (Explain file address due format progress) h = tt
job_is_fit s (Page file output progress) h = tt
job_is_fit s (Capture words) h = tt
job_is_fit s (Fault number) h = tt

-- ---- where there is none

abbrev UsageOf : Error → Usage → Type 0
UsageOf e u = (u ≡ Memory × kind_of e ≡ OutOfMemory) ⊎ (u ≡ Told e × kind_of e ≢ OutOfMemory)

pub mistake_is : (words : List Text) (e : Error) (u : Usage) → HasKind (fault_of program words) e → UsageOf e u → IsMistake words u
mistake_is words e u h (inl m) = subst (λ (x : Usage). IsMistake words x) (sym m.0) tt
mistake_is words e u (inl memory) (inr m) = absurd (m.1 memory)
mistake_is words e u (inr among) (inr m) = subst (λ (x : Usage). IsMistake words x) (sym m.0) (inl among)

-- where the words have no fault
pub only_memory : (words : List Text) (e : Error) (u : Usage) → HasKind (fault_of program words) e → UsageOf e u → fault_of program words ≡ [] → u ≡ Memory
only_memory words e u h (inl m) none = m.0
only_memory words e u (inl memory) (inr m) none = absurd (m.1 memory)
only_memory words e u (inr among) (inr m) none = absurd (subst (λ (kinds : Kinds). IsAmong (kind_of e) kinds) none among)
