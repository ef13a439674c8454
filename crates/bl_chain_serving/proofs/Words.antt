-- What is said by the end of a run of a chain, from what its parts say.
use Rattle.std.proofs.Common.{◌≡◌, ◌⊎◌, ℕ, Bool, true, false, List, [], ◌++◌, Option, Some, None, ◌∙◌, ap, append-nil, append_assoc, arith, inl, inr, refl, subst, sym, true≢false}
use Rattle.bl_wire.proofs.PutLaws.{puts-append, puts-is}
use Rattle.bl_chain_serving.specs.Going.{IsFault, over_of}
use Rattle.bl_chain_serving.specs.Telling.{HasSaid, HasToldChainFault, HasToldFault, HasToldWhy, TellsOver}
use Rattle.bl_disk.specs.File.{File}
use Rattle.bl_hall.specs.Chronicle.{Chronicle}
use Rattle.bl_serving.specs.Chained.{IsChained}
use Rattle.bl_serving.specs.Hosted.{HasHosted, status_with}
use Rattle.bl_serving.specs.Serving.{faults_found, hosted_text}
use Rattle.bl_serving.specs.Telling.{trail_text}
use Rattle.bl_setup.specs.Setup.{Setup}
use Rattle.bl_status.specs.Message.{fault_line}
use Rattle.bl_status.specs.Places.{trail_line}
use Rattle.bl_status.specs.Status.{IsEnd, status_after, status_of}
use Rattle.bl_status.specs.declared.fault.ProgramFault.{ProgramFault}
use Rattle.bl_status.specs.declared.fault.ProgramFault.TheVariants.{NoMemory}
use Rattle.bl_trail_run.specs.Files.{file_in, is_whole}
use Rattle.bl_trail_run.specs.declared.recorded.RecordedFile.{RecordedFile}
use Rattle.bl_trail_run.specs.declared.recorded.RecordedFile.TheVariants.{Whole, Left}
use Rattle.bl_wire.specs.Watch.{EndState, Puts, Use}

zero-is-no-fault : (status : ℕ) → IsFault status → status ≡ 0 → ⊥
zero-is-no-fault status (inl three) is = omega (arith, three, is)
zero-is-no-fault status (inr four) is = omega (arith, four, is)

module _ (x y z : EndState) where
  -- what is said behind other words
  pub said-behind : HasSaid x y → HasSaid y z → HasSaid x z
  said-behind one other = (one.0 ++ other.0, puts-append one.0 other.0 x y z one.1 other.1)

  pub fault-behind : (status : ℕ) → HasSaid x y → HasToldFault status y z → HasToldFault status x z
  fault-behind status one told = record {
    fault = told.fault;
    status_is = told.status_is;
    front = one.0 ++ told.front;
    rest = told.rest;
    said = puts-is _ _ x z (sym (append_assoc one.0 told.front (fault_line told.fault ++ told.rest)))
        (puts-append one.0 (told.front ++ (fault_line told.fault ++ told.rest)) x y z one.1 told.said);
  }

  pub why-behind : (name : List ℕ) (status : ℕ) → HasSaid x y → HasToldWhy name status y z → HasToldWhy name status x z
  why-behind name status one (inl told) = inl (fault-behind status one told)
  why-behind name status one (inr told) = inr (record {
    fault = told.fault;
    status_is = told.status_is;
    front = one.0 ++ told.front;
    said = puts-is _ _ x z (sym (append_assoc one.0 told.front _)) (puts-append one.0 _ x y z one.1 told.said);
  })

module _ (before after : EndState) where
  -- a fault with what it is about
  pub fault-told : (fault : ProgramFault) (status : ℕ) (rest : List ℕ) → status ≡ status_of fault → Puts (fault_line fault ++ rest) before after
      → HasToldFault status before after
  fault-told fault status rest is said = record { fault = fault; status_is = is; front = []; rest = rest; said = said }

  -- where memory was refused at the first, or behind sessions that ended early, or where the trail has a fault, that was told
  refused-first : (live early rest : List ℕ) (status : ℕ) → status ≡ status_of NoMemory
      → Puts (live ++ (((fault_line NoMemory ++ []) ++ early) ++ rest)) before after → HasToldFault status before after
  refused-first live early rest status is said = record {
    fault = NoMemory;
    status_is = is;
    front = live;
    rest = early ++ rest;
    said = puts-is _ _ before after (ap (λ text. live ++ text) (ap (λ text. (text ++ early) ++ rest) (append-nil (fault_line NoMemory))
        ∙ append_assoc (fault_line NoMemory) early rest)) said;
  }

  refused-later : (live early rest : List ℕ) (status : ℕ) → status ≡ status_of NoMemory
      → Puts (live ++ ((early ++ (fault_line NoMemory ++ [])) ++ rest)) before after → HasToldFault status before after
  refused-later live early rest status is said = record {
    fault = NoMemory;
    status_is = is;
    front = live ++ early;
    rest = rest;
    said = puts-is _ _ before after (ap (λ text. live ++ text) (ap (λ text. (early ++ text) ++ rest) (append-nil (fault_line NoMemory))
        ∙ append_assoc early (fault_line NoMemory) rest) ∙ sym (append_assoc live early (fault_line NoMemory ++ rest))) said;
  }

  faulty-trail : (live early : List ℕ) (late : ProgramFault) (status : ℕ) → status ≡ status_of late
      → Puts (live ++ (early ++ fault_line late)) before after → HasToldFault status before after
  faulty-trail live early late status is said = record {
    fault = late;
    status_is = is;
    front = live ++ early;
    rest = [];
    said = puts-is _ _ before after (sym (append_assoc live early (fault_line late))
        ∙ ap (λ text. (live ++ early) ++ text) (sym (append-nil (fault_line late)))) said;
  }

  -- of what is told at the end of a run that served, the line of the fault which gives the status
  told-by : (threads : Bool) (ended : _) (memory : Bool) (live : List ℕ) (trail : Option ProgramFault) (status : ℕ)
      → status ≡ status_with (status_after 0 (faults_found threads memory)) trail → IsFault status
      → Puts (live ++ (hosted_text threads ended memory ++ trail_text trail)) before after → HasToldFault status before after
  told-by false ended memory live None status is fault said = refused-first live (hosted_text true ended memory) [] status is said
  told-by false ended memory live (Some late) status is fault said =
      refused-first live (hosted_text true ended memory) (fault_line late) status is said
  told-by true ended true live None status is fault said = refused-later live _ _ status is said
  told-by true ended true live (Some late) status is fault said = refused-later live _ _ status is said
  told-by true ended false live (Some late) status is fault said = faulty-trail live _ late status is said
  told-by true ended false live None status is fault said = absurd (zero-is-no-fault status fault is)

  module _ (name : List ℕ) (setup : Setup) (limit : ℕ) (is_first : Bool) (output : Use) {D : Type 0} (now : D → File) where
    -- a run that was served tells why the program ends, where it does
    pub served-tells : (file : RecordedFile D) (hall : Option Chronicle) (status : ℕ)
        → IsChained name setup limit is_first
        (record { status = status; whole = is_whole file; file = file_in now file; hall = hall }) output before after
        → (status ≡ 0 → is_whole file ≡ true) → IsEnd status → TellsOver (over_of file hall status) before after
    served-tells (Whole closed) (Some hall) status (inl served) whole end = (_, served.hosted.said)
    served-tells (Whole closed) (Some hall) status (inr unserved) whole end = (_, unserved.said)
    served-tells (Whole closed) None status (inl served) whole end = absurd (true≢false served.hall_is)
    served-tells (Whole closed) None status (inr unserved) whole end = absurd (true≢false unserved.torn)
    served-tells (Left device) hall status (inr unserved) whole end =
        fault-told unserved.fault status (trail_line name unserved.fault) unserved.status_is unserved.said
    served-tells (Left device) hall status (inl served) whole (inl zero_is) = absurd (true≢false (sym (whole zero_is)))
    served-tells (Left device) hall status (inl served) whole (inr fault) =
        let hosted = served.hosted in
        told-by hosted.threads hosted.ended hosted.memory hosted.live hosted.trail status hosted.status_is fault hosted.said
