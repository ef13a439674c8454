-- The run with which an audit begins.
use Rattle.std.specs.Prelude.{◌≡◌, ℕ, ◌≤◌, List, Option, Some, None}
use Rattle.hex.specs.Hex.{encode_lower}
use Rattle.sha2.specs.Sha256.{sha256}
use Rattle.bl_setup.specs.Setup.{Setup}
use Rattle.bl_state.specs.Texts.{setup_text}
use Rattle.bl_folder.specs.Standing.{Contents}
use Rattle.bl_chain.specs.Setups.{IsFirst, IsSetupOf}
use Rattle.bl_chain_audit.specs.declared.noted.NotedRun.{NotedRun}

-- own choice: the checksum of a setup is the SHA-256 (FIPS 180-4) of its text, in hexadecimal digits
abbrev pub sum_text : Setup → List ℕ
sum_text setup = encode_lower (sha256 (setup_text setup))

-- this run was noted
abbrev pub IsNoted : Option NotedRun → ℕ → Type 0
IsNoted None run = ⊥
IsNoted (Some noted) run = run ≡ noted.run

-- Own choice: an audit begins with the noted run; where none was noted, with the lowest whose setup is there.
abbrev pub IsBeginning : Contents → Option NotedRun → ℕ → Type 0
IsBeginning there None run = IsFirst there run
IsBeginning there (Some noted) run = run ≡ noted.run

-- the checksum of this setup was noted, if one was
abbrev pub HasNotedSum : Option NotedRun → Setup → Type 0
HasNotedSum None setup = Unit {0}
HasNotedSum (Some noted) setup = sum_text setup ≡ noted.digest.now

-- an audit looks at this run: at each one; where one was noted, from that on
abbrev pub IsLookedAt : Option NotedRun → ℕ → Type 0
IsLookedAt None run = Unit {0}
IsLookedAt (Some noted) run = noted.run ≤ run

-- the setup of this run has another checksum than the noted one
abbrev pub HasOtherSum : Contents → Option NotedRun → ℕ → Type 0
HasOtherSum there noted run = (setup : Setup) × IsSetupOf there run setup × (HasNotedSum noted setup → ⊥)
