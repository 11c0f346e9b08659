-- The line of a run that ended with another status than 0.
use Rattle.std.specs.Prelude.{ℕ, List, [], ◌++◌, codes, Option, Some, None, if◌then◌else◌}
use Rattle.std.specs.Str.{bytes_eq}
use denote.Ref.{Bor}
use Rattle.mq_bytes.specs.Decimal.{digits_of}
use Rattle.store_open.specs.declared.status.Status.{Status}
use Rattle.exit_status.specs.declared.end.End.{End}
use Rattle.exit_status.specs.declared.end.End.TheVariants.{Done, Usage, BadFrame, Source, Sink, Disk, Foreign, Memory, Damaged, Threads, Device}
use Rattle.exit_status.specs.declared.lines.Scene.{Scene}

-- the code of an end
abbrev pub code_of : End → ℕ
code_of Done = 0
code_of Usage = 1
code_of BadFrame = 2
code_of Source = 3
code_of Sink = 4
code_of Disk = 5
code_of Foreign = 6
code_of Memory = 7
code_of Damaged = 8
code_of Threads = 9
code_of Device = 10

-- what to do
abbrev pub advice_text : End → List ℕ
advice_text Done = codes "nothing is to be done"
advice_text Usage = codes "see mq_broker --help"
advice_text BadFrame = codes "look at the client; what was answered before is stored"
advice_text Source = codes "run again; what was answered is stored"
advice_text Sink = codes "run again; what was answered is stored"
advice_text Disk = codes "end the other process or look at the disk, then run again; what was answered is stored"
advice_text Foreign = codes "use another folder, or the store's own sizes; nothing was changed"
advice_text Memory = codes "give it more memory, then run again; what was answered is stored"
advice_text Damaged = codes "keep a copy and look at the file; nothing was changed"
advice_text Threads = codes "raise the limit on threads or processes; nothing was served"
advice_text Device = codes "look at its rights and at who else uses it, then run again; what was answered is stored"

-- the cause where it is known, and else this
abbrev pub told : Option (Bor (List ℕ)) → List ℕ → List ℕ
told None other = other
told (Some cause) other = cause.now

-- the folder in the store's folder that has a file of this name
abbrev pub folder_of : List ℕ → List ℕ
folder_of name = if bytes_eq name (codes "format") then codes "/config/" else if bytes_eq name (codes "consumerOffset.json") then codes "/config/"
    else if bytes_eq name (codes "topics.json") then codes "/config/" else codes "/"

-- the path of a file of the store
abbrev pub path_text : Scene → List ℕ → List ℕ
path_text scene name = (scene.store.now ++ folder_of name) ++ name

-- where the device of this name failed, or why
abbrev pub device_text : Scene → List ℕ → List ℕ
device_text scene name = if bytes_eq name (codes "keep") then told scene.cause scene.store.now
    else if bytes_eq name (codes "clock") then codes "no time is to be had" else scene.address.now

-- what happened
abbrev pub what_text : End → Status → Scene → List ℕ
what_text Done status scene = codes "it ended"
what_text Usage status scene = (codes "argument " ++ digits_of status.place) ++ codes " doesn't fit"
what_text BadFrame status scene = (codes "no frame begins at byte " ++ digits_of status.place) ++ codes " of the input"
what_text Source status scene = codes "standard input failed"
what_text Sink status scene = codes "standard output failed"
what_text Disk status scene = (codes "the disk failed" ++ codes ": ") ++ told scene.cause scene.store.now
what_text Foreign status scene =
    (path_text scene status.name ++ codes " is not of this program") ++ codes ", or of a store of other sizes than were asked for"
what_text Memory status scene = codes "out of memory"
what_text Damaged status scene = (((path_text scene status.name ++ codes " is damaged at") ++ codes " ") ++ digits_of status.place) ++ []
what_text Threads status scene = codes "no thread can be started"
what_text Device status scene = (((codes "the " ++ status.name) ++ codes " failed: ") ++ device_text scene status.name) ++ []

-- the program's name, what happened, the code in digits, and what to do
abbrev pub line_text : End → Status → Scene → List ℕ
line_text end status scene =
    ((((((codes "mq_broker: " ++ what_text end status scene) ++ codes " (status ") ++ digits_of status.code) ++ codes "): ")
    ++ advice_text end) ++ [])
