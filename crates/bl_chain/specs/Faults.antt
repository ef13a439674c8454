-- What a fault of a folder is to a chain.
use Rattle.bl_folder.specs.declared.fault.FolderFault.{FolderFault}
use Rattle.bl_folder.specs.declared.fault.FolderFault.TheVariants as folders
use Rattle.bl_chain.specs.declared.fault.ChainFault.{ChainFault}
use Rattle.bl_chain.specs.declared.fault.ChainFault.TheVariants.{Folder, InUse, Memory}

abbrev pub chain_fault : FolderFault → ChainFault
chain_fault folders.InUse = InUse
chain_fault folders.Memory = Memory
chain_fault folders.Missing = Folder folders.Missing
chain_fault folders.Taken = Folder folders.Taken
chain_fault folders.TooLong = Folder folders.TooLong
chain_fault folders.Refused = Folder folders.Refused
