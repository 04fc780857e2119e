-- What the tokens of a line say that adds a block.
use Rattle.std.specs.Prelude.{◌≡◌, ◌<◌, ◌≤◌, ℕ, List, [], length, codes, Option, Some, None, Ok}
use Rattle.json.specs.Token as token
use Rattle.json.specs.Json as json
use Rattle.serde_json.specs.Data.{Data, Members, no_members, member}
use Rattle.serde_json.specs.Read.{converted, of_json, of_members}
use Rattle.fc_spec.specs.documents.BlockReading.{block_of}
use Rattle.fc_spec.specs.documents.Document.{Block}
use Rattle.fc_spec.specs.documents.Schema.{Schema}
use Rattle.fc_spec.specs.documents.ValidBlocks.{IsBlockOf}
use Rattle.fc_spec.specs.scripts.LineReading.{added_shard, line_said, shard_of}
use Rattle.fc_spec.specs.scripts.Script.{add}
use Rattle.fc_docs.specs.Direct.{Spells}
use Rattle.fc_lines.specs.declared.line.adding.members.Part.{Part}
use Rattle.fc_lines.specs.declared.line.adding.members.Part.TheVariants as part

-- the token of a part
abbrev pub part_token : Part → token.Token
part_token part.Doc = token.key (codes "doc")
part_token part.Shard = token.key (codes "shard")
part_token part.End = token.end_object

-- of the tokens `old`, the first ones spell members, in which at most four levels nest, and the brace behind them, and `new` are
-- behind the brace; with those `found` before, they come to `all`
abbrev pub SpellsMembers : List token.Token → List token.Token → Members → Members → Type 0
SpellsMembers old new found all = (depth n : ℕ) → 4 ≤ depth → length old ≤ n →
    converted (λ ms. of_members ms found) (json.members (json.value depth) n old) ≡ Some (all, new)

-- the members of an `add`
abbrev pub add_members : Data → Option Data → Members
add_members doc None = member (codes "doc") doc no_members
add_members doc (Some shard) = member (codes "doc") doc (member (codes "shard") shard no_members)

-- the value at the front of the tokens is the number of one of so many shards
pub record GivesShard (shards : ℕ) (old new : List token.Token) (n : ℕ) : Type 0 where
  pub said : Data
  pub spells : Spells 0 old new said
  pub is : shard_of shards said ≡ Ok n
  pub below : n < shards

-- the tokens behind a document are at most the number of a shard
pub record GivesShardBehind (s : Schema) (old new : List token.Token) (n : ℕ) : Type 0 where
  pub said : Option Data
  pub spells : (doc : Data) → SpellsMembers old new (member (codes "doc") doc no_members) (add_members doc said)
  pub is : added_shard s said ≡ Ok n
  pub below : n < s.shards

-- the tokens behind the brace of an `add` are this block for this shard
pub record GivesAdded (s : Schema) (old new : List token.Token) (n : ℕ) (b : Block) : Type 0 where
  pub doc : Data
  pub said : Option Data
  pub spells : SpellsMembers old new no_members (add_members doc said)
  pub shard : added_shard s said ≡ Ok n
  pub below : n < s.shards
  pub block : block_of s doc ≡ Ok b
  pub valid : IsBlockOf s b

-- the tokens are a line that adds this block to this shard
pub record SaysAdd (s : Schema) (ts : List token.Token) (n : ℕ) (b : Block) : Type 0 where
  pub said : Data
  pub spells : converted of_json (json.value 127 ts) ≡ Some (said, [])
  pub line : line_said s said ≡ Ok (add n b)
  pub below : n < s.shards
  pub valid : IsBlockOf s b
