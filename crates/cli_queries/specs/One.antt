-- The answer of `abr one`: the longest match of an address (RFC 2328, 11.1) in the table that one
-- LSA gives a router with one area and one interface.
use Rattle.std.specs.Prelude.{ℕ, ◌≡◌, ◌⊎◌, ◌++◌, List, [], ◌∷◌, None, codes, decimal, length, true, false}
use mathlib.Core.List.{IsPrefix}
use Rattle.ospf_types.specs.declared.config.Config.{Config}
use Rattle.ospf_types.specs.declared.key.Scope.TheVariants as scope
use Rattle.ospf_types.specs.Lsa.{Lsa}
use Rattle.ospf_types.specs.Text.{address_text}
use Rattle.event_state.specs.declared.event.Event.{Event}
use Rattle.event_state.specs.declared.event.Event.TheVariants as event
use Rattle.route_table.specs.declared.table.Match.{Match}
use Rattle.event_state.specs.declared.refusal.Refusal.{Refusal}
use Rattle.ospf_types.specs.Configs.{config_fault_of}
use Rattle.engine.specs.Cores.{IsConfigFaultOf}
use Rattle.event_state.specs.Bases.{bare}
use Rattle.event_state.specs.Steps.{standard_limits}
use Rattle.event_state.specs.Refusals.{IsRefusalOf}
use Rattle.engine.specs.Right.{IsRight}
use Rattle.event_state.specs.States.{State}
use Rattle.event_state.specs.Steps.{run_of, refusal_of, IsLegalList}
use Rattle.route_table.specs.Tables.{TableValue, IsMatch}
use Rattle.route_table.specs.Texts.{match_text}
use Rattle.publication.specs.Forwarders.{SeenValue}
use Rattle.publication.specs.Published.{IsTableFor}
use Rattle.cli_queries.specs.declared.argument_values.OneInput.{OneInput}
use Rattle.cli_queries.specs.declared.command_fault.CommandFault.{CommandFault}
use Rattle.cli_queries.specs.declared.command_fault.CommandFault.TheVariants as fault
use Rattle.cli_args.specs.Command.{OneTexts}
use Rattle.cli_queries.specs.Words.{WritesAddress, WritesLsa, HasWireFault, IsFirstFault, AreArgumentsRead}
use Rattle.cli_queries.specs.Answers.{AnswerValue, IsAnswer}

-- the content of the words of the command
pub record OneArguments : Type 0 where
  pub router : ℕ
  pub area : ℕ
  pub address : ℕ
  pub lsa : Lsa
  pub lookup : ℕ

-- the input that was read
abbrev pub given_by : OneInput → Lsa → OneArguments
given_by input lsa = record { router = input.router; area = input.area; address = input.address; lsa = lsa; lookup = input.lookup }

-- the words say this
pub record Say (words : OneTexts) (g : OneArguments) : Type 0 where
  pub router : WritesAddress words.router g.router
  pub area : WritesAddress words.area g.area
  pub address : WritesAddress words.address g.address
  pub lsa : WritesLsa words.lsa g.lsa
  pub lookup : WritesAddress words.lookup g.lookup

-- the router has one area, which is no stub area and has no ranges
abbrev pub one_area : ℕ → ℕ → Config
one_area router area = record { router = router; compat = false; areas = record { id = area; stub = None; ranges = [] } ∷ [] }

abbrev pub config_of : OneArguments → Config
config_of g = one_area g.router g.area

-- interface 1 comes up, with no peer
abbrev pub interface_event : OneArguments → Event
interface_event g = event.Interface 1 g.area g.address 0 true

-- the LSA is installed in the area
abbrev pub install_event : OneArguments → Event
install_event g = event.Install (scope.Area g.area) g.lsa

abbrev pub both_events : OneArguments → List Event
both_events g = interface_event g ∷ install_event g ∷ []

-- the state after such events
abbrev pub state_after : OneArguments → List Event → State
state_after g events = run_of (bare (config_of g)) standard_limits events

-- each of the two events is taken, and the table is right for them
pub record IsAnswerTable (g : OneArguments) (t : TableValue) : Type 0 where
  pub legal : IsLegalList (bare (config_of g)) standard_limits (both_events g)
  pub right : IsRight (state_after g (both_events g)) t

-- `lookup`, the address as it was given, how many events the table follows, and the match
abbrev pub lookup_line : List ℕ → TableValue → Match → List ℕ
lookup_line word t found = codes "lookup " ++ word ++ codes " " ++ decimal t.serial ++ codes " " ++ match_text found ++ codes "\n"

-- the line has the match of the address in a table that is right for what was given
pub record PrintsMatch (g : OneArguments) (line : List ℕ) : Type 0 where
  pub table : TableValue
  pub right : IsAnswerTable g table
  pub found : Match
  pub matched : IsMatch table.items g.lookup found
  pub printed : line ≡ lookup_line (address_text g.lookup) table found

-- the line has the match of the address in a table that was seen, which follows two events
pub record PrintsSeen (s : SeenValue) (line : List ℕ) : Type 0 where
  pub both : length s.list ≡ 2
  pub right : IsTableFor s.name.base s.list s.table
  pub found : Match
  pub matched : IsMatch s.table.items s.address found
  pub printed : line ≡ lookup_line (address_text s.address) s.table found

-- The line has the match of the last word in a table that is right for what the words say.
pub record HasAnswerLine (words : OneTexts) (line : List ℕ) : Type 0 where
  pub given : OneArguments
  pub say : Say words given
  pub table : TableValue
  pub right : IsAnswerTable given table
  pub found : Match
  pub matched : IsMatch table.items given.lookup found
  pub printed : line ≡ lookup_line words.lookup table found

-- the first of the two events that is not taken is refused so
abbrev pub IsEventRefused : OneArguments → Refusal → Type 0
IsEventRefused g r = IsRefusalOf (state_after g []) (interface_event g) r
    ⊎ ((refusal_of (state_after g []) (interface_event g) ≡ None) × IsRefusalOf (state_after g (interface_event g ∷ [])) (install_event g) r)

-- the list that was known is a prefix of the one that is known now, and so is the token's list; it
-- is one of the two
pub record HasLearned (known told now : List Event) : Type 0 where
  pub before : IsPrefix known now
  pub told_too : IsPrefix told now
  pub one : (now ≡ known) ⊎ (now ≡ told)

-- the reason why an engine does not take an event in this state, or why it is not known to have
-- taken it
abbrev pub IsStepFault : State → Event → CommandFault → Type 0
IsStepFault s e (fault.Refused r) = IsRefusalOf s e r
IsStepFault s e fault.NoEntry = Unit {0}
IsStepFault s e fault.Memory = Unit {0}
IsStepFault s e _ = ⊥

-- the reason why no engine is opened
abbrev pub IsOpenFault : Config → CommandFault → Type 0
IsOpenFault config (fault.Config f) = IsConfigFaultOf config f
IsOpenFault config fault.Place = config_fault_of config ≡ None
IsOpenFault config _ = ⊥

-- the reason why an engine gives no line for the input
abbrev pub IsEngineFault : OneArguments → CommandFault → Type 0
IsEngineFault g (fault.Config f) = IsConfigFaultOf (config_of g) f
IsEngineFault g (fault.Refused r) = (config_fault_of (config_of g) ≡ None) × IsEventRefused g r
IsEngineFault g fault.Place = config_fault_of (config_of g) ≡ None
IsEngineFault g fault.NoEntry = config_fault_of (config_of g) ≡ None
IsEngineFault g fault.Memory = Unit {0}
IsEngineFault g _ = ⊥

-- The reason why nothing is looked up. A word's fault is the fault of the first word that has one.
-- The LSA is read once all words are, and the configuration and the events are tested once the LSA
-- is read. Memory may run out anywhere.
abbrev pub IsFault : OneTexts → CommandFault → Type 0
IsFault words (fault.Word f) = IsFirstFault words f
IsFault words (fault.Wire f) = AreArgumentsRead words × HasWireFault words.lsa f
IsFault words fault.Memory = Unit {0}
IsFault words f = (g : OneArguments) × Say words g × IsEngineFault g f

-- the answer of `abr one` with these words
abbrev pub IsOneAnswer : OneTexts → AnswerValue → Type 0
IsOneAnswer words = IsAnswer (HasAnswerLine words) (IsFault words)
