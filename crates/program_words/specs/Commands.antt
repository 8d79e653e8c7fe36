-- The forms of words that a run may be called with (this project's rule).
use Rattle.std.specs.Prelude.{◌≡◌, ℕ, ◌⊎◌, List, [], ◌∷◌, Option, Some, None, codes}
use Rattle.net_addresses.specs.Addresses.{NetworkText}
use Rattle.dsd_addresses.specs.Remotes.{RemoteText, remote_text}
use Rattle.script_player.specs.Agent.{default_agent}
use Rattle.program_words.specs.Answers.{IsDriveTo, IsDriveWords, IsMergeWords, IsReceiveWords, IsRulesWords}
use Rattle.program_words.specs.BenchWords.{AreBenchWords}
use Rattle.program_words.specs.Serving.{AreServeWords}
use Rattle.program_words.specs.declared.command.Command.{Command}
use Rattle.program_words.specs.declared.command.Command.TheVariants as command

-- the words of the command `serve`, with some count and some networks
abbrev pub IsServeWords : List (List ℕ) → Type 0
IsServeWords words = (count : ℕ) × (networks : List NetworkText) × AreServeWords words count networks

-- the words of the command `bench`, with some number of rounds
abbrev pub IsBenchWords : List (List ℕ) → Type 0
IsBenchWords words = (count : ℕ) × AreBenchWords words count

-- the words of a command that reads a stream: of pages, of payloads, or of rules and pages
abbrev pub IsStreamWords : List (List ℕ) → Type 0
IsStreamWords words = IsMergeWords words ⊎ (IsReceiveWords words ⊎ IsRulesWords words)

-- the words of the six forms: the command `drive`, alone or with the text of an address; the commands `serve`, `bench`, `merge`,
-- `receive` and `rules`
abbrev pub IsForm : List (List ℕ) → Type 0
IsForm words = IsDriveWords words ⊎ (IsServeWords words ⊎ (IsBenchWords words ⊎ IsStreamWords words))

-- the words of a command that reads a script
abbrev pub IsScriptWords : List (List ℕ) → Type 0
IsScriptWords words = IsDriveWords words ⊎ IsServeWords words

-- the address that the settings of the script are checked against: where its payloads go, or would go where none are sent
abbrev pub IsCheckedFor : List (List ℕ) → RemoteText → Type 0
IsCheckedFor words to = IsDriveTo words to ⊎ (IsServeWords words × (to ≡ default_agent))

-- the words are those of the command `drive` with this address, and no others
pub record AreOfDrive (words : List (List ℕ)) (to : RemoteText) : Type 0 where
  pub drives : IsDriveTo words to
  pub only : (other : RemoteText) → IsDriveTo words other → other ≡ to
  pub no_serve : ¬ IsServeWords words
  pub no_bench : ¬ IsBenchWords words
  pub no_stream : ¬ IsStreamWords words

-- of the command `serve` with this count and these networks
pub record AreOfServe (words : List (List ℕ)) (count : ℕ) (networks : List NetworkText) : Type 0 where
  pub serves : AreServeWords words count networks
  pub only : (other_count : ℕ) (others : List NetworkText) → AreServeWords words other_count others → (other_count ≡ count) × (others ≡ networks)
  pub no_drive : ¬ IsDriveWords words
  pub no_bench : ¬ IsBenchWords words
  pub no_stream : ¬ IsStreamWords words

-- of the command `bench` with this number of rounds
pub record AreOfBench (words : List (List ℕ)) (count : ℕ) : Type 0 where
  pub benches : AreBenchWords words count
  pub only : (other : ℕ) → AreBenchWords words other → other ≡ count
  pub no_drive : ¬ IsDriveWords words
  pub no_serve : ¬ IsServeWords words
  pub no_stream : ¬ IsStreamWords words

-- of a command that is this word alone
pub record AreOfWord (words : List (List ℕ)) (word : List ℕ) : Type 0 where
  pub are : words ≡ word ∷ []
  pub no_drive : ¬ IsDriveWords words
  pub no_serve : ¬ IsServeWords words
  pub no_bench : ¬ IsBenchWords words

-- the words write this command and no other, or none
abbrev pub HasCommand : List (List ℕ) → Option Command → Type 0
HasCommand words None = ¬ IsForm words
HasCommand words (Some (command.Drive to)) = AreOfDrive words (remote_text to)
HasCommand words (Some (command.Serve count networks)) = AreOfServe words count networks.items
HasCommand words (Some (command.Bench count)) = AreOfBench words count
HasCommand words (Some command.Merge) = AreOfWord words (codes "merge")
HasCommand words (Some command.Receive) = AreOfWord words (codes "receive")
HasCommand words (Some command.Rules) = AreOfWord words (codes "rules")
