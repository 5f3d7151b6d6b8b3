-- Why a file or a template is refused.
use Rattle.std.specs.Prelude.{ℕ, List}
use Rattle.std.specs.Str.{IsUtf8, IsValidUpTo}
use Rattle.lic_kind.specs.LineRules.{LineRules}
use Rattle.lic_phrases.specs.Rewriting.{Phrase}
use Rattle.lic_elements.specs.Faults.{IsLasting}
use Rattle.lic_markup.specs.FirstFaults.{IsFaultOf}
use Rattle.lic_stream.specs.declared.transfer.ReadFault.{ReadFault}
use Rattle.lic_stream.specs.declared.transfer.ReadFault.TheVariants.{Read, Memory}
use Rattle.lic_load.specs.declared.fault.FileFault.{FileFault}
use Rattle.lic_load.specs.declared.fault.FileFault.TheVariants.{Unreadable, NotUtf8, Refused}
use Rattle.lic_load.specs.declared.templates.TemplateFault.{TemplateFault}
use Rattle.lic_load.specs.declared.templates.TemplateFault.TheVariants.{Unreadable as UnreadableTemplate, NotUtf8 as TemplateNotUtf8, Markup, Memory as WantsMemory}

-- a failed read leaves it unread, and running out of memory is reported as such
abbrev pub fault_of_read : ReadFault → TemplateFault
fault_of_read Read = UnreadableTemplate
fault_of_read Memory = WantsMemory

-- why bytes that were read are refused: they are not UTF-8, with the length of the longest prefix that is, or they are and what they say is at fault
abbrev pub IsFileFault : {F : Type 0} → List ℕ → (F → Type 0) → FileFault F → Type 0
IsFileFault bytes IsFault Unreadable = ⊥
IsFileFault bytes IsFault (NotUtf8 at) = ¬ IsUtf8 bytes × IsValidUpTo bytes at
IsFileFault bytes IsFault (Refused fault) = IsUtf8 bytes × IsFault fault

-- why bytes that were read are no template: they are not UTF-8, with the length of the longest prefix that is; or the fault of the template that
-- decides, if memory did not run out
abbrev pub IsTemplateFault : LineRules → List Phrase → List ℕ → TemplateFault → Type 0
IsTemplateFault rules words bytes UnreadableTemplate = ⊥
IsTemplateFault rules words bytes (TemplateNotUtf8 at) = ¬ IsUtf8 bytes × IsValidUpTo bytes at
IsTemplateFault rules words bytes (Markup fault) = IsLasting fault → IsFaultOf rules words bytes fault
IsTemplateFault rules words bytes WantsMemory = ⊥
