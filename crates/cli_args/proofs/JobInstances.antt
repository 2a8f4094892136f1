-- What the clause `gives` of `job` says of each form of a command line, one by one.
use Rattle.std.proofs.Common.{ℕ, ◌≡◌, sym, subst, true, false, List, [], ◌∷◌, Some, Result, codes}
use Rattle.clap.specs.Walk.{Text}
use Rattle.output_lines.specs.declared.format.Format.{Format}
use Rattle.output_lines.specs.declared.format.Show.{Show}
use Rattle.cli_args.specs.Command.{ArePlain, AreReadable, CaptureTexts, GivesJob, IsFileWord, IsOutputFlag, IsPlainWord, JobTexts, OfCapture, OfChanges, OfDecode, OfExplain, OfFault, OfFollow, OfOne, OfPage, OfReplay, OneTexts, Spells, SpellsCapture, SpellsChanges, SpellsChangesFormat, SpellsChangesProgress, SpellsDecode, SpellsDue, SpellsExplain, SpellsExplainFormat, SpellsExplainProgress, SpellsFault, SpellsFollow, SpellsFollowFormat, SpellsFollowOnly, SpellsLong, SpellsOne, SpellsOnly, SpellsOutput, SpellsPage, SpellsPageProgress, SpellsReplay, SpellsReplayFormat, SpellsReplayProgress, SpellsShow, SpellsStrict, SpellsWorkers, WritesWorkers, capture_words, format_name, plain_changes, plain_explain, plain_follow, plain_page, plain_replay, show_name}
use Rattle.cli_args.specs.declared.command.Job.{Job}
use Rattle.cli_args.specs.declared.command.Usage.{Usage}

module _ (line : List Text) (result : Result Job Usage) (gives : (t : JobTexts) → Spells line t → GivesJob result t) where
  spelled : (words : List Text) (t : JobTexts) → line ≡ words → Spells words t → GivesJob result t
  spelled words t is s = gives t (subst (λ (l : List Text). Spells l t) (sym is) s)

  pub one : (name : Text) (t : OneTexts) → line ≡ name ∷ codes "one" ∷ t.router ∷ t.area ∷ t.address ∷ t.lsa ∷ t.lookup ∷ []
      → ArePlain t → GivesJob result (OfOne t)
  one name t is p = spelled _ _ is (SpellsOne name t p)

  pub decode : (name hex : Text) → line ≡ name ∷ codes "decode" ∷ hex ∷ [] → IsPlainWord hex → GivesJob result (OfDecode hex false)
  decode name hex is p = spelled _ _ is (SpellsDecode name hex p)

  pub long : (name hex : Text) → line ≡ name ∷ codes "decode" ∷ hex ∷ codes "--long" ∷ [] → IsPlainWord hex → GivesJob result (OfDecode hex true)
  long name hex is p = spelled _ _ is (SpellsLong name hex p)

  pub replay : (name file : Text) → line ≡ name ∷ codes "replay" ∷ file ∷ [] → IsFileWord file → GivesJob result (OfReplay (plain_replay file))
  replay name file is p = spelled _ _ is (SpellsReplay name file p)

  pub workers : (name file number : Text) (count : ℕ) → line ≡ name ∷ codes "replay" ∷ file ∷ codes "--workers" ∷ number ∷ []
      → IsFileWord file → WritesWorkers number count → GivesJob result (OfReplay (record (plain_replay file) { workers = count }))
  workers name file number count is p q = spelled _ _ is (SpellsWorkers name file number count p q)

  pub shows : (name file : Text) (show : Show) → line ≡ name ∷ codes "replay" ∷ file ∷ codes "--show" ∷ show_name show ∷ []
      → IsFileWord file → GivesJob result (OfReplay (record (plain_replay file) { show = show }))
  shows name file show is p = spelled _ _ is (SpellsShow name file show p)

  pub changes : (name file : Text) → line ≡ name ∷ codes "changes" ∷ file ∷ [] → IsFileWord file → GivesJob result (OfChanges (plain_changes file))
  changes name file is p = spelled _ _ is (SpellsChanges name file p)

  pub only : (name file prefix : Text) → line ≡ name ∷ codes "changes" ∷ file ∷ codes "--only" ∷ prefix ∷ []
      → IsFileWord file → IsPlainWord prefix → GivesJob result (OfChanges (record (plain_changes file) { only = Some prefix }))
  only name file prefix is p q = spelled _ _ is (SpellsOnly name file prefix p q)

  pub follow : (name : Text) → line ≡ name ∷ codes "follow" ∷ [] → GivesJob result (OfFollow plain_follow)
  follow name is = spelled _ _ is (SpellsFollow name)

  pub strict : (name : Text) → line ≡ name ∷ codes "follow" ∷ codes "--strict" ∷ []
      → GivesJob result (OfFollow (record plain_follow { strict = true }))
  strict name is = spelled _ _ is (SpellsStrict name)

  pub follow_only : (name prefix : Text) → line ≡ name ∷ codes "follow" ∷ codes "--only" ∷ prefix ∷ []
      → IsPlainWord prefix → GivesJob result (OfFollow (record plain_follow { only = Some prefix }))
  follow_only name prefix is p = spelled _ _ is (SpellsFollowOnly name prefix p)

  pub explain : (name file address : Text) → line ≡ name ∷ codes "explain" ∷ file ∷ address ∷ []
      → IsFileWord file → IsPlainWord address → GivesJob result (OfExplain (plain_explain file address))
  explain name file address is p q = spelled _ _ is (SpellsExplain name file address p q)

  pub due : (name file address area : Text) → line ≡ name ∷ codes "explain" ∷ file ∷ address ∷ codes "--due" ∷ area ∷ []
      → IsFileWord file → IsPlainWord address → IsPlainWord area → GivesJob result (OfExplain (record (plain_explain file address) { due = Some area }))
  due name file address area is p q r = spelled _ _ is (SpellsDue name file address area p q r)

  pub page : (name file : Text) → line ≡ name ∷ codes "page" ∷ file ∷ [] → IsFileWord file → GivesJob result (OfPage (plain_page file))
  page name file is p = spelled _ _ is (SpellsPage name file p)

  pub outputs : (name file flag output : Text) → line ≡ name ∷ codes "page" ∷ file ∷ flag ∷ output ∷ []
      → IsOutputFlag flag → IsFileWord file → IsFileWord output → GivesJob result (OfPage (record (plain_page file) { output = Some output }))
  outputs name file flag output is f p q = spelled _ _ is (SpellsOutput name file flag output f p q)

  pub capture : (name : Text) (t : CaptureTexts) → line ≡ name ∷ codes "capture" ∷ t.file ∷ capture_words t
      → AreReadable t → GivesJob result (OfCapture t)
  capture name t is p = spelled _ _ is (SpellsCapture name t p)

  pub fault : (name number : Text) → line ≡ name ∷ codes "fault" ∷ number ∷ [] → IsPlainWord number → GivesJob result (OfFault number)
  fault name number is p = spelled _ _ is (SpellsFault name number p)

  pub replay_format : (name file : Text) (format : Format) → line ≡ name ∷ codes "replay" ∷ file ∷ codes "--format" ∷ format_name format ∷ []
      → IsFileWord file → GivesJob result (OfReplay (record (plain_replay file) { format = format }))
  replay_format name file format is p = spelled _ _ is (SpellsReplayFormat name file format p)

  pub changes_format : (name file : Text) (format : Format) → line ≡ name ∷ codes "changes" ∷ file ∷ codes "--format" ∷ format_name format ∷ []
      → IsFileWord file → GivesJob result (OfChanges (record (plain_changes file) { format = format }))
  changes_format name file format is p = spelled _ _ is (SpellsChangesFormat name file format p)

  pub follow_format : (name : Text) (format : Format) → line ≡ name ∷ codes "follow" ∷ codes "--format" ∷ format_name format ∷ []
      → GivesJob result (OfFollow (record plain_follow { format = format }))
  follow_format name format is = spelled _ _ is (SpellsFollowFormat name format)

  pub explain_format : (name file address : Text) (format : Format) → line ≡ name ∷ codes "explain" ∷ file ∷ address ∷ codes "--format" ∷ format_name format ∷ []
      → IsFileWord file → IsPlainWord address → GivesJob result (OfExplain (record (plain_explain file address) { format = format }))
  explain_format name file address format is p q = spelled _ _ is (SpellsExplainFormat name file address format p q)

  pub replay_progress : (name file : Text) → line ≡ name ∷ codes "replay" ∷ file ∷ codes "--progress" ∷ []
      → IsFileWord file → GivesJob result (OfReplay (record (plain_replay file) { progress = true }))
  replay_progress name file is p = spelled _ _ is (SpellsReplayProgress name file p)

  pub changes_progress : (name file : Text) → line ≡ name ∷ codes "changes" ∷ file ∷ codes "--progress" ∷ []
      → IsFileWord file → GivesJob result (OfChanges (record (plain_changes file) { progress = true }))
  changes_progress name file is p = spelled _ _ is (SpellsChangesProgress name file p)

  pub explain_progress : (name file address : Text) → line ≡ name ∷ codes "explain" ∷ file ∷ address ∷ codes "--progress" ∷ []
      → IsFileWord file → IsPlainWord address → GivesJob result (OfExplain (record (plain_explain file address) { progress = true }))
  explain_progress name file address is p q = spelled _ _ is (SpellsExplainProgress name file address p q)

  pub page_progress : (name file : Text) → line ≡ name ∷ codes "page" ∷ file ∷ codes "--progress" ∷ []
      → IsFileWord file → GivesJob result (OfPage (record (plain_page file) { progress = true }))
  page_progress name file is p = spelled _ _ is (SpellsPageProgress name file p)
